-- The characters are those of the text, and have its bytes.
use Rattle.std.proofs.Common.{◌≡◌, List, ℕ, IfOk, chars, length, encode_utf8_all, subst, ap, ◌∙◌, arith}
use Rattle.std.proofs.lemmas.Str.{encodes-chars}
use Rattle.query_lexer.specs.Symbols.{symbols_within, symbols_of}
use Rattle.query_lexer.proofs.lexer.symbols.Goals as goal

pub all_symbols-requires : goal.all_symbols-requires
all_symbols-requires c =
    let known : c.deref.result.now ≡ chars c.args.text.now = c.deref.ensures.value ∙ c.in_ok-letters.ensures in
    let same : length (encode_utf8_all c.deref.result.now) ≡ length c.args.text.now = ap (λ xs. length (encode_utf8_all xs)) known ∙ ap length (encodes-chars c.args.text.now c.utf8.text) in
    omega arith

pub returns : goal.returns
unfolding symbols_of
returns c =
    let known : c.deref.result.now ≡ chars c.args.text.now = c.deref.ensures.value ∙ c.in_ok-letters.ensures in
    subst (λ (xs : List ℕ). IfOk c.all_symbols.result (λ symbols. symbols ≡ symbols_within (length xs) 0 xs)) known c.all_symbols.ensures
