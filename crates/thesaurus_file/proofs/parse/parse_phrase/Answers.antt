-- All words are passed.
use Rattle.std.proofs.Common.{◌≡◌, ◌∙◌, ap, refl, ℕ, List, [], ◌∷◌, map, arith}
use Rattle.std.proofs.lemmas.List.{take_all}
use Rattle.text_forms.specs.Forms.{key_of}
use Rattle.text_words.specs.Pieces.{bytes_at}
use Rattle.text_words.specs.declared.words.Piece.{Piece}
use Rattle.thesaurus_file.specs.Lines.{phrase_of}
use Rattle.thesaurus_file.proofs.parse.parse_phrase.Goals as goal

keys_of_all : (text : List ℕ) (pieces : List Piece) → map (λ piece. key_of (bytes_at text piece)) pieces ≡ map key_of (map (bytes_at text) pieces)
keys_of_all text [] = refl
keys_of_all text (p ∷ ps) = ap (λ l. key_of (bytes_at text p) ∷ l) (keys_of_all text ps)

pub returns : goal.returns
unfolding phrase_of
returns c =
    let text = c.args.text.now in
    c.loop-piece.invariant
    ∙ ap (map (λ piece. key_of (bytes_at text piece))) (take_all c.loop-piece.piece-index c.deref-piece-items.result.now (omega (arith, c.loop-piece-test.false)) ∙ c.deref-piece-items.ensures.value)
    ∙ keys_of_all text c.in_ok-pieces.pieces.items
    ∙ ap (map key_of) c.in_ok-pieces.ensures.words
