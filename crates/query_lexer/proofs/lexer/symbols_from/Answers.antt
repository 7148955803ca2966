-- The characters are those of the text from the place on, and have its bytes.
use Rattle.std.proofs.Common.{◌≡◌, ◌+◌, ◌≤◌, List, ℕ, IfOk, chars, length, drop, encode_utf8_all, subst, ap, ◌∙◌, arith, length-drop}
use Rattle.std.proofs.lemmas.Str.{encodes-chars, IsUtf8-drop}
use Rattle.query_lexer.specs.Symbols.{symbols_from, symbols_within}
use Rattle.query_lexer.proofs.lexer.symbols_from.Goals as goal

pub all_symbols-requires : goal.all_symbols-requires
all_symbols-requires c =
    let known : c.deref.result.now ≡ chars (drop c.args.from c.args.text.now) = c.deref.ensures.value ∙ c.in_ok-letters.ensures ∙ ap chars c.range_from.ensures.value in
    let same : length (encode_utf8_all c.deref.result.now) ≡ length (drop c.args.from c.args.text.now) =
    ap (λ xs. length (encode_utf8_all xs)) known ∙ ap length (encodes-chars (drop c.args.from c.args.text.now) (IsUtf8-drop c.args.text.now c.args.from c.utf8.text c.requires)) in
    let within : c.args.from ≤ length c.args.text.now = c.requires.0 in
    omega (arith, same, within, length-drop c.args.from c.args.text.now)

pub returns : goal.returns
unfolding symbols_from
returns c =
    let known : c.deref.result.now ≡ chars (drop c.args.from c.args.text.now) = c.deref.ensures.value ∙ c.in_ok-letters.ensures ∙ ap chars c.range_from.ensures.value in
    subst (λ (xs : List ℕ). IfOk c.all_symbols.result (λ symbols. symbols ≡ symbols_within (length xs) c.args.from xs)) known c.all_symbols.ensures
