-- What each kind of symbol reads is the symbol at the front.
use Rattle.std.proofs.Common.{◌≡◌, IfOk, sym, ◌∙◌, subst, Option}
use Rattle.query_lexer.specs.declared.lexeme.Lexeme.{Lexeme}
use Rattle.query_lexer.proofs.FirstLexemes.{name_first, number_first, string_first, slash_first, mark_first}
use Rattle.query_lexer.proofs.prefix.first_lexeme.Goals as goal

pub returns-then-is_name_start-clause-value : goal.returns-then-is_name_start-clause-value
returns-then-is_name_start-clause-value c =
    subst (λ (o : Option Lexeme). IfOk c.name.result (λ lexeme. lexeme ≡ o))
    (name_first c.args.letters.now c.index-letters-0.result c.requires c.index-letters-0.is (sym c.is_name_start.ensures ∙ c.if-is_name_start.true))
    c.name.ensures.value

pub returns-then-is_digit-clause-value : goal.returns-then-is_digit-clause-value
returns-then-is_digit-clause-value c =
    c.number.ensures.value
    ∙ number_first c.args.letters.now c.index-letters-0.result c.requires c.index-letters-0.is (sym c.is_name_start.ensures ∙ c.if-is_name_start.false) (sym c.is_digit.ensures ∙ c.if-is_digit.true)

pub returns-then-is_quote-clause-value : goal.returns-then-is_quote-clause-value
returns-then-is_quote-clause-value c =
    subst (λ (o : Option Lexeme). IfOk c.string.result (λ lexeme. lexeme ≡ o))
    (string_first c.args.letters.now c.index-letters-0.result c.requires c.index-letters-0.is (sym c.is_name_start.ensures ∙ c.if-is_name_start.false) (sym c.is_digit.ensures ∙ c.if-is_digit.false)
    (sym c.is_quote.ensures ∙ c.if-is_quote.true))
    c.string.ensures.value

pub returns-then-is_slash-clause-value : goal.returns-then-is_slash-clause-value
returns-then-is_slash-clause-value c =
    c.slash.ensures.value
    ∙ slash_first c.args.letters.now c.index-letters-0.result c.requires c.index-letters-0.is (sym c.is_name_start.ensures ∙ c.if-is_name_start.false) (sym c.is_digit.ensures ∙ c.if-is_digit.false)
    (sym c.is_quote.ensures ∙ c.if-is_quote.false) (sym c.is_slash.ensures ∙ c.if-is_slash.true)

pub returns-else-is_slash-clause-value : goal.returns-else-is_slash-clause-value
returns-else-is_slash-clause-value c =
    c.mark.ensures.value
    ∙ mark_first c.args.letters.now c.index-letters-0.result c.requires c.index-letters-0.is (sym c.is_name_start.ensures ∙ c.if-is_name_start.false) (sym c.is_digit.ensures ∙ c.if-is_digit.false)
    (sym c.is_quote.ensures ∙ c.if-is_quote.false) (sym c.is_slash.ensures ∙ c.if-is_slash.false)
