-- Slots that were filled with a document, with the free ones linked, stand for it; and references that no node has are apart from its own.
use Rattle.std.proofs.Common.{◌≡◌, ◌≢◌, ℕ, ◌+◌, ◌-◌, ◌*◌, ◌<◌, ◌≤◌, max, true, false, IsTrue, List, ◌++◌, Option, length, get_or, replicate, take, drop, refl, sym, ap, ◌∙◌, arith, subst, length-append}
use Rattle.std.specs.List.{All, AllPairs, sum_by}
use Rattle.std.proofs.lemmas.Bool.{true≢false}
use Rattle.std.proofs.lemmas.List.{get_or-replicate, length-map, length-replicate, take-append-drop}
use Rattle.std.proofs.lemmas.List.Elements.{All-append, All-map, All-same, All-weaker}
use Rattle.std.proofs.lemmas.List.Folds.{sum_by-replicate}
use Rattle.doc_grammar.specs.Limits.{node_count}
use Rattle.plain_tree.specs.Document.{is_document}
use Rattle.ordered_tree.specs.Counts.{word_count}
use Rattle.ordered_tree.specs.Numbered.{Numbered, element_at, text_at, plain, reference}
use Rattle.ordered_tree.specs.Slots.{held, no_slot, root_ref, root_of, free_from, IsIn, IsDocument}
use Rattle.ordered_tree.specs.Stands.{Stand, round_root, stands_in, references}
use Rattle.ft_base.specs.declared.ids.NodeRef.{NodeRef}
use Rattle.ordered_tree.specs.declared.slot.Held.TheVariants.{Free}
use Rattle.ordered_tree.specs.declared.slot.Slot.{Slot}
use Rattle.ordered_tree.specs.steps.FreeSlots.{is_free, free_numbers, Leads, spare}
use Rattle.ordered_tree.specs.steps.LinksBelow.{LinksBelow}
use Rattle.ordered_tree.specs.steps.Placing.{Below, placed}
use Rattle.ordered_tree.proofs.ApartLemmas.{AllPairs-left, AllPairs-right, AllPairs-between, AllPairs-append, AllPairs-before_map, All-before_map}
use Rattle.ordered_tree.proofs.FreeLemmas.{IsFreeNumber, all-free_numbers, apart-free_numbers, length-free_numbers, numbers, all-numbers, apart-numbers, spare-is}
use Rattle.ordered_tree.proofs.PlacingLemmas.{Apart, IsFreeAt, free_weight, length-placed, links-placed, in-placed, below-from, count-placed}
use Rattle.ordered_tree.proofs.RowLemmas.{length-stands_in}
use Rattle.ordered_tree.proofs.SlotsLemmas.{All-left, some_node, root_of-is}

taken : (n : Numbered) → is_free (held n) ≡ false
taken (element_at r name attrs kids) = refl
taken (text_at r bytes) = refl

abbrev pub empty : ℕ → List Slot
empty count = replicate count no_slot

abbrev pub filled : ℕ → Numbered → List Slot
filled count root = placed round_root root (empty count)

module _ (root : Numbered) (count : ℕ) (apart : AllPairs (λ a b. a ≢ b) (references root)) (below : All (λ r. r.0 < count) (references root)) where
  pub low : Below count root
  low = below-from root round_root count (All-before_map (λ r. r.0 < count) (λ (s : Stand). reference s.node) (stands_in root) below)

  pub low-empty : Below (length (empty count)) root
  low-empty = subst (λ l. Below l root) (sym (length-replicate count no_slot)) low

  -- their links lead to slots that there are
  pub links-filled : (bound : ℕ) → count ≤ bound → All (LinksBelow bound) (filled count root)
  links-filled bound few =
      links-placed bound root round_root (empty count)
      (below-from root round_root bound (All-before_map (λ r. r.0 < bound) (λ (s : Stand). reference s.node) (stands_in root)
      (All-weaker (λ r. r.0 < count) (λ r. r.0 < bound) (λ r h. omega (arith, h, few)) (references root) below)))
      tt tt
      (λ k d lt. subst (LinksBelow bound) (sym (get_or-replicate count k no_slot d (omega (arith, lt, length-replicate count no_slot))))
      (record { first_child = tt; next = tt; parent = tt }))

  stands-apart : AllPairs Apart (stands_in root)
  stands-apart = AllPairs-before_map (λ a b. a ≢ b) (λ (s : Stand). reference s.node) (stands_in root) apart

  in-filled : All (IsIn (filled count root)) (stands_in root)
  in-filled = in-placed root round_root (empty count) low-empty stands-apart

  free-before : All (IsFreeAt (empty count)) (stands_in root)
  free-before k d lt e =
      let s : Stand = get_or (stands_in root) k d in
      let less : (reference s.node).0 < count = All-before_map (λ r. r.0 < count) (λ (x : Stand). reference x.node) (stands_in root) below k d lt in
      ap (λ (x : Slot). is_free x.held) (get_or-replicate count (reference s.node).0 no_slot e less)

  pub length-filled : length (filled count root) ≡ count
  length-filled = length-placed root round_root (empty count) ∙ length-replicate count no_slot

  all-slots : length (references root) + length (free_numbers 0 (filled count root)) ≡ count
  all-slots =
      let total = count-placed root round_root (empty count) low-empty stands-apart free-before in
      let sum : sum_by free_weight (empty count) ≡ count * 1 = sum_by-replicate free_weight count no_slot in
      omega (arith, total, sum, length-map (stands_in root) (λ (s : Stand). reference s.node), length-free_numbers (filled count root) 0)

  pub nodes-fit : node_count (plain root) ≤ count
  nodes-fit = omega (arith, all-slots, length-map (stands_in root) (λ (s : Stand). reference s.node), length-stands_in root round_root)

  between : All (λ r. All (λ q. r ≢ q) (free_numbers 0 (filled count root))) (references root)
  between =
      All-map (λ r. All (λ q. r ≢ q) (free_numbers 0 (filled count root))) (λ (s : Stand). reference s.node) (stands_in root) (λ k d lt j f less same.
      let s : Stand = get_or (stands_in root) k d in
      let i : IsIn (filled count root) s = in-filled k d lt in
      let q : NodeRef = get_or (free_numbers 0 (filled count root)) j f in
      let free : IsFreeNumber 0 (filled count root) q = all-free_numbers (filled count root) 0 j f less in
      let at : free.at ≡ (reference s.node).0 = omega (arith, free.is, ap (λ (r : NodeRef). r.0) same) in
      let is : is_free (held s.node) ≡ true = ap (λ (x : Slot). is_free x.held) (sym (i.holds no_slot)) ∙ ap (λ n. is_free (get_or (filled count root) n no_slot).held) (sym at) ∙ free.free no_slot in
      true≢false (sym is ∙ taken s.node))

  module _ (new : List Slot) (free : Option NodeRef) (long : length new ≡ length (filled count root)) (kept : (number : ℕ) (d : Slot) → (get_or (filled count root) number d).held ≢ Free → get_or new number d ≡ get_or (filled count root) number d) (links : free_from (length new) new free ≡ free_numbers 0 (filled count root)) where
    in-new : All (IsIn new) (stands_in root)
    in-new k d lt =
        let s : Stand = get_or (stands_in root) k d in
        let i : IsIn (filled count root) s = in-filled k d lt in
        record {
          here = omega (arith, i.here, long);
          holds = λ e. kept (reference s.node).0 e (λ same. true≢false (sym (ap is_free (sym (ap (λ (x : Slot). x.held) (i.holds e)) ∙ same)) ∙ taken s.node)) ∙ i.holds e;
        }

    pub root-is : reference root ≡ root_ref → root_of new ≡ root
    root-is rooted = root_of-is new root rooted (omega (arith, nodes-fit, long, length-filled)) in-new

    pub IsDocument-filled : reference root ≡ root_ref → IsTrue (is_document (plain root)) → count < 2147483648 → word_count (plain root) < 2147483648 → IsDocument new free root
    IsDocument-filled rooted document few_slots few_words =
        record {
          document = document;
          rooted = rooted;
          stands = in-new;
          apart = subst (λ l. AllPairs (λ a b. a ≢ b) (references root ++ l)) (sym links)
              (AllPairs-append (λ a b. a ≢ b) (references root) (free_numbers 0 (filled count root)) apart (apart-free_numbers (filled count root) 0) between);
          whole = ap (λ l. length (references root ++ l)) links ∙ length-append (references root) (free_numbers 0 (filled count root)) ∙ omega (arith, all-slots, long, length-filled);
          below = All-same (λ r. r.0 < length new) (free_from (length new) new free) (free_numbers 0 (filled count root)) links
              (All-weaker (IsFreeNumber 0 (filled count root)) (λ r. r.0 < length new) (λ r f. omega (arith, f.is, f.there, long)) (free_numbers 0 (filled count root)) (all-free_numbers (filled count root) 0));
          few_slots = omega (arith, few_slots, long, length-filled);
          few_nodes = omega (arith, nodes-fit);
          few_words = few_words;
        }

-- ---- references that no node has

module _ (slots : List Slot) (free : Option NodeRef) (root : Numbered) (d : IsDocument slots free root) where
  abbrev frees : List NodeRef
  frees = free_from (length slots) slots free

  few-free : length frees + node_count (plain root) ≡ length slots
  few-free = omega (arith, d.whole, length-append (references root) frees, length-map (stands_in root) (λ (s : Stand). reference s.node), length-stands_in root round_root)

  ends : length frees < length slots
  ends = omega (arith, few-free, some_node root)

  pub free-leads : Leads slots free
  free-leads = record { far = length slots; ends = ends; below = d.below }

  pub refs-below : All (λ r. r.0 < length slots) (references root)
  refs-below = All-map (λ r. r.0 < length slots) (λ (s : Stand). reference s.node) (stands_in root) (λ k e lt. let i : IsIn slots (get_or (stands_in root) k e) = d.stands k e lt in i.here)

  module _ (count : ℕ) where
    abbrev firsts : List NodeRef
    firsts = take count frees

    abbrev others : List NodeRef
    others = numbers (length slots) (count - length frees)

    first-part : (P : NodeRef → Type 0) → All P frees → All P firsts
    first-part P h = All-left P firsts (drop count frees) (All-same P (firsts ++ drop count frees) frees (take-append-drop count frees) h)

    firsts-below : All (λ r. r.0 < length slots) firsts
    firsts-below = first-part (λ r. r.0 < length slots) d.below

    firsts-apart : AllPairs (λ a b. a ≢ b) firsts
    firsts-apart = AllPairs-left (λ a b. a ≢ b) firsts (drop count frees)
        (subst (AllPairs (λ a b. a ≢ b)) (sym (take-append-drop count frees)) (AllPairs-right (λ a b. a ≢ b) (references root) frees d.apart))

    -- those after all slots are apart from those of slots
    suffix : (xs : List NodeRef) → All (λ r. r.0 < length slots) xs → All (λ r. All (λ q. r ≢ q) others) xs
    suffix xs h k e lt j f less same =
        let more : length slots ≤ (get_or others j f).0 = (all-numbers (length slots) (count - length frees) j f less).0 in
        absurd (omega (arith, h k e lt, more, ap (λ (r : NodeRef). r.0) same))

    spare-apart : AllPairs (λ a b. a ≢ b) (references root ++ (firsts ++ others))
    spare-apart =
        AllPairs-append (λ a b. a ≢ b) (references root) (firsts ++ others) (AllPairs-left (λ a b. a ≢ b) (references root) frees d.apart)
        (AllPairs-append (λ a b. a ≢ b) firsts others firsts-apart (apart-numbers (length slots) (count - length frees)) (suffix firsts firsts-below))
        (λ k e lt.
        let r : NodeRef = get_or (references root) k e in
        All-append (λ q. r ≢ q) firsts others (first-part (λ q. r ≢ q) (AllPairs-between (λ a b. a ≢ b) (references root) frees d.apart k e lt)) (suffix (references root) refs-below k e lt))

    spare-below : All (λ r. r.0 < max (length slots) (node_count (plain root) + count)) (firsts ++ others)
    spare-below =
        All-append (λ r. r.0 < max (length slots) (node_count (plain root) + count)) firsts others
        (All-weaker (λ r. r.0 < length slots) (λ r. r.0 < max (length slots) (node_count (plain root) + count)) (λ r h. omega (arith, h)) firsts firsts-below)
        (All-weaker (λ r. (length slots ≤ r.0) × (r.0 < length slots + (count - length frees))) (λ r. r.0 < max (length slots) (node_count (plain root) + count))
        (λ r h. omega (arith, h.0, h.1, few-free)) others (all-numbers (length slots) (count - length frees)))

    is : spare count slots free (length slots) ≡ firsts ++ others
    is = spare-is count (length slots) slots free (length slots) ends

    pub apart-spare : AllPairs (λ a b. a ≢ b) (references root ++ spare count slots free (length slots))
    apart-spare = subst (λ l. AllPairs (λ a b. a ≢ b) (references root ++ l)) (sym is) spare-apart

    pub below-spare : All (λ r. r.0 < max (length slots) (node_count (plain root) + count)) (spare count slots free (length slots))
    below-spare = All-same (λ r. r.0 < max (length slots) (node_count (plain root) + count)) (spare count slots free (length slots)) (firsts ++ others) is spare-below
