-- The key of the line's word is put into the set.
use Rattle.std.proofs.Common.{◌≡◌, ◌∙◌, sym, ap, ℕ, List, map}
use Rattle.std.specs.Prelude.{Some, option_map, string_bytes}
use Rattle.std.specs.Option.{option_copied}
use Rattle.text_forms.specs.Forms.{key_of}
use Rattle.word_lists.specs.Words.{only, words_of_line}
use Rattle.word_lists.specs.KeySets.{with_key}
use Rattle.word_lists.proofs.KeyLemmas.{bytes_with_key}
use Rattle.word_lists.proofs.key_set.KeySet.add_line.Goals as goal

pub returns : goal.returns
returns c =
    let keys = c.args.self.now in
    let key = c.in_ok-key.key in
    let found : only (words_of_line c.args.line.now) ≡ Some c.in-Some.word.now = sym c.in_ok-word.ensures ∙ ap option_copied c.in-Some.is in
    let spelled : string_bytes key ≡ key_of c.in-Some.word.now = c.in_ok-key.ensures in
    ap (option_map (λ (w : List ℕ). with_key keys (key_of w))) found
    ∙ ap Some (ap (with_key keys) (sym spelled)
    ∙ ap (λ ks. with_key ks (string_bytes key)) (sym c.self.view_is)
    ∙ sym (bytes_with_key c.self.inside.keys.keys key)
    ∙ sym (ap (map string_bytes) c.in_ok-insert.ensures.keys))
