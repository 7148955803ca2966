-- What a name in quotation marks says, and the path behind it.
use Rattle.std.proofs.Common.{◌≡◌, ◌∙◌, sym, ap, subst, true, false, rules}
use Rattle.std.specs.Prelude.{Some, None, MatchOption}
use Rattle.reply_lines.specs.Names.{is_quoted_name}
use Rattle.ft_base.specs.Lists.{is_empty}
use Rattle.session_text.specs.Quoted.{unquoted_on}
use Rattle.session_text.proofs.CommandLemmas.{bad_quoted_name, good_quoted_name}
use Rattle.session_text.proofs.named_with_path.read_behind_quote.Goals as goal

pub returns-then-not-can_quote : goal.returns-then-not-can_quote
returns-then-not-can_quote c =
    let read = subst (λ o. MatchOption o (unquoted_on false c.args.quoted.now ≡ None) (λ q. unquoted_on false c.args.quoted.now ≡ Some (q.0, q.1.now))) c.in-Some.is c.in_ok-name.ensures in
    let no_word : is_empty c.split_word.result.0.now ≡ true = search (rules, c.is_empty.ensures, c.if-not-is_empty.ensures) in
    let some_path : is_empty c.split_word.result.1.now ≡ false = search (rules, c.is_empty-else-not-is_empty.ensures, c.if-is_empty.ensures) in
    let same : c.as_str.result.now ≡ c.in-Some.name = search (rules, c.as_str.ensures) in
    bad_quoted_name c.args.number (unquoted_on false c.args.quoted.now) c.in-Some.name c.in-Some.suffix.now read
    (ap is_empty (sym c.split_word.ensures.word) ∙ no_word) (ap is_empty (sym c.split_word.ensures.rest) ∙ some_path) (ap is_quoted_name (sym same) ∙ sym c.if-not-can_quote.ensures)

pub returns : goal.returns
returns c =
    let read = subst (λ o. MatchOption o (unquoted_on false c.args.quoted.now ≡ None) (λ q. unquoted_on false c.args.quoted.now ≡ Some (q.0, q.1.now))) c.in-Some.is c.in_ok-name.ensures in
    let no_word : is_empty c.split_word.result.0.now ≡ true = search (rules, c.is_empty.ensures, c.if-not-is_empty.ensures) in
    let some_path : is_empty c.split_word.result.1.now ≡ false = search (rules, c.is_empty-else-not-is_empty.ensures, c.if-is_empty.ensures) in
    let same : c.as_str.result.now ≡ c.in-Some.name = search (rules, c.as_str.ensures) in
    good_quoted_name c.args.number (unquoted_on false c.args.quoted.now) c.in-Some.name c.in-Some.suffix.now c.in_ok-path.path read
    (ap is_empty (sym c.split_word.ensures.word) ∙ no_word) (ap is_empty (sym c.split_word.ensures.rest) ∙ some_path) (ap is_quoted_name (sym same) ∙ sym c.if-not-can_quote.ensures)
    (c.in_ok-path.ensures ∙ c.split_word.ensures.rest)
