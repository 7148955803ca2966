-- What the grammar spells has joined texts.
use Rattle.std.proofs.Common.{◌≡◌, ℕ, Bool, true, false, ◌&&◌, not, List, [], ◌∷◌, ◌++◌, refl, ◌∙◌, ap}
use Rattle.std.proofs.lemmas.List.{append-nil}
use Rattle.std.proofs.lemmas.Bool.{and_parts, and_from}
use Rattle.std.proofs.Math.Bool.{and-false}
use Rattle.plain_tree.specs.Document.{Node, text, nodes, is_text, is_joined, are_joined, is_document}
use Rattle.doc_grammar.specs.Grammar.{text_node, Element, Content, Document}

pub ends_with_text : List Node → Bool
ends_with_text [] = false
ends_with_text (n ∷ []) = is_text n
ends_with_text (n ∷ k ∷ ks) = ends_with_text (k ∷ ks)

-- lists of nodes whose texts are joined
pub record Joined (ks : List Node) : Type 0 where
  pub joined : are_joined (nodes ks) ≡ true
  pub ends : ends_with_text ks ≡ false

element_following : (ks : List Node) (n : Node) → are_joined (nodes ks) ≡ true → is_joined n ≡ true → is_text n ≡ false → are_joined (nodes (ks ++ n ∷ [])) ≡ true
element_following [] n h j t = and_from _ _ (and_from _ _ j (ap (λ b. not (b && false)) t)) refl
element_following (k ∷ []) n h j t = let two = and_parts _ _ h in and_from _ _ (and_from _ _ (and_parts _ _ two.0).0 (ap (λ b. not (is_text k && b)) t ∙ ap not (and-false (is_text k)))) (element_following [] n refl j t)
element_following (k ∷ l ∷ ks) n h j t = let two = and_parts _ _ h in and_from _ _ two.0 (element_following (l ∷ ks) n two.1 j t)

ends_after : (ks : List Node) (n : Node) → is_text n ≡ false → ends_with_text (ks ++ n ∷ []) ≡ false
unfolding ends_with_text
ends_after [] n t = t
ends_after (k ∷ []) n t = t
ends_after (k ∷ l ∷ ks) n t = ends_after (l ∷ ks) n t

text_after : (ks : List Node) (b : ℕ) (bytes : List ℕ) → are_joined (nodes ks) ≡ true → ends_with_text ks ≡ false → are_joined (nodes (ks ++ text (b ∷ bytes) ∷ [])) ≡ true
unfolding ends_with_text
text_after [] b bytes h e = refl
text_after (k ∷ []) b bytes h e = let two = and_parts _ _ h in and_from _ _ (and_from _ _ (and_parts _ _ two.0).0 (ap (λ z. not (z && true)) e)) refl
text_after (k ∷ l ∷ ks) b bytes h e = let two = and_parts _ _ h in and_from _ _ two.0 (text_after (l ∷ ks) b bytes two.1 e)

with_text_node : (ks : List Node) (bytes : List ℕ) → Joined ks → are_joined (nodes (ks ++ text_node bytes)) ≡ true
with_text_node ks [] j = ap (λ z. are_joined (nodes z)) (append-nil ks) ∙ j.joined
with_text_node ks (b ∷ bytes) j = text_after ks b bytes j.joined j.ends

none_joined : Joined []
unfolding ends_with_text
none_joined = record { joined = refl; ends = refl }

mutual
  pub element_joined : {u : List ℕ} {n : Node} → Element u n → (is_joined n ≡ true) × (is_text n ≡ false)
  element_joined (Element.empty tag sp) = (refl, refl)
  element_joined (Element.whole {bytes = bytes} {kids = kids} tag sp content cs e suffix) = (with_text_node kids bytes (content_joined content), refl)

  pub content_joined : {u bytes : List ℕ} {ks : List Node} → Content u ks bytes → Joined ks
  content_joined Content.nothing = none_joined
  content_joined (Content.character x c h a b) = content_joined x
  content_joined (Content.reference x r) = content_joined x
  content_joined (Content.skipped x s) = content_joined x
  content_joined (Content.child {bytes = bytes} {kids = kids} {node = n} x e) =
      let j = element_joined e in
      record { joined = element_following (kids ++ text_node bytes) n (with_text_node kids bytes (content_joined x)) j.0 j.1; ends = ends_after (kids ++ text_node bytes) n j.1 }

pub document_joined : {w : List ℕ} {n : Node} → Document w n → is_document n ≡ true
document_joined (Document.document {node = n} x e y) = let j = element_joined e in and_from _ _ (ap not j.1) j.0
