-- What may stand under filters without counted shapes may stand; counted shapes have no `ftnot` in another; each kind of field has its law.
use Rattle.std.proofs.Common.{◌≡◌, refl, ap, sym, ◌∙◌, Bool, true, false, true≢false, List}
use Rattle.std.specs.Prelude.{Option, None, Some}
use Rattle.std.proofs.lemmas.Bool.{and_from, and_parts, or_left}
use Rattle.std.proofs.lemmas.Option.{none-some}
use Rattle.ft_base.specs.declared.filter.Filter.{Filter}
use Rattle.ft_base.specs.declared.filter.Filter.TheVariants as F
use Rattle.ft_base.specs.declared.options.Options.{Options}
use Rattle.ft_base.specs.declared.token.Token.{Token}
use Rattle.ft_base.specs.Selection.{Form, Forms, words, or_of, and_of, mild_not, not_of, filtered, with_options, none, more}
use Rattle.all_matches.specs.Allowed.{each_has_plain_nots, each_is_allowed, has_plain_nots, is_allowed, may_be_filtered, without_not}
use Rattle.all_matches.specs.Meaning.{sat_under}
use Rattle.all_matches.specs.Variants.{Lexicon}
use Rattle.counted_shapes.specs.Accepted.{each_is_accepted, field_of, fit_in, is_accepted, is_counted}
use Rattle.counted_shapes.specs.Held.{needs_hit}
use Rattle.counted_shapes.specs.Shapes.{are_shapes, is_bare, is_shape, items_of}
use Rattle.counted_shapes.specs.declared.field.Field.{Field}
use Rattle.counted_shapes.proofs.CountedLemmas.{counted-paragraph, counted-sentence, counted-window}

mutual
  unfolding is_allowed is_accepted

  pub allowed-accepted : (form : Form) → is_allowed form ≡ true → is_accepted form ≡ true
  allowed-accepted (words value) h = refl
  allowed-accepted (or_of forms) h = each_allowed-accepted forms h
  allowed-accepted (and_of forms) h = each_allowed-accepted forms h
  allowed-accepted (mild_not left right) h = h
  allowed-accepted (not_of form) h = allowed-accepted form h
  allowed-accepted (filtered form kind) h = or_left (may_be_filtered form) (is_counted form kind) h
  allowed-accepted (with_options form inner) h = allowed-accepted form h

  each_allowed-accepted : (forms : Forms) → each_is_allowed forms ≡ true → each_is_accepted forms ≡ true
  each_allowed-accepted none h = refl
  each_allowed-accepted (more form rest) h =
      let parts = and_parts (is_allowed form) (each_is_allowed rest) h in
      and_from (is_accepted form) (each_is_accepted rest) (allowed-accepted form parts.0) (each_allowed-accepted rest parts.1)

bare-without : (form : Form) → is_bare form ≡ true → without_not form ≡ true
unfolding is_bare without_not
bare-without (words value) h = refl
bare-without (or_of forms) h = absurd (true≢false (sym h))
bare-without (and_of forms) h = absurd (true≢false (sym h))
bare-without (mild_not left right) h = absurd (true≢false (sym h))
bare-without (not_of form) h = absurd (true≢false (sym h))
bare-without (filtered form kind) h = absurd (true≢false (sym h))
bare-without (with_options form inner) h = bare-without form h

mutual
  unfolding is_shape has_plain_nots

  pub shape-plain : (form : Form) → is_shape form ≡ true → has_plain_nots form ≡ true
  shape-plain (words value) h = refl
  shape-plain (or_of forms) h = absurd (true≢false (sym h))
  shape-plain (and_of forms) h = shapes-plain forms h
  shape-plain (mild_not left right) h = absurd (true≢false (sym h))
  shape-plain (not_of form) h = bare-without form h
  shape-plain (filtered form kind) h = absurd (true≢false (sym h))
  shape-plain (with_options form inner) h = shape-plain form h

  shapes-plain : (forms : Forms) → are_shapes forms ≡ true → each_has_plain_nots forms ≡ true
  shapes-plain none h = refl
  shapes-plain (more form rest) h =
      let parts = and_parts (is_shape form) (are_shapes rest) h in
      and_from (has_plain_nots form) (each_has_plain_nots rest) (shape-plain form parts.0) (shapes-plain rest parts.1)

module _ (lexicon : Lexicon) (options : Options) (form : Form) (tokens : List Token) (shape : is_shape form ≡ true) (needs : needs_hit form ≡ true) where
  -- of a field that is known
  abbrev fits_by : Option Field → Bool
  fits_by None = false
  fits_by (Some field) = fit_in field (items_of lexicon options tokens form)

  pub counted-field : (kind : Filter) (field : Field) → field_of kind ≡ Some field → sat_under lexicon options (filtered form kind) tokens ≡ fit_in field (items_of lexicon options tokens form)
  counted-field F.Ordered field h = absurd (none-some field h)
  counted-field (F.Window size unit) field h = counted-window lexicon options size unit form tokens shape needs ∙ ap fits_by h
  counted-field (F.Distance range unit) field h = absurd (none-some field h)
  counted-field F.SameSentence field h = counted-sentence lexicon options form tokens shape needs ∙ ap fits_by h
  counted-field F.SameParagraph field h = counted-paragraph lexicon options form tokens shape needs ∙ ap fits_by h
  counted-field F.DifferentSentence field h = absurd (none-some field h)
  counted-field F.DifferentParagraph field h = absurd (none-some field h)
  counted-field F.AtStart field h = absurd (none-some field h)
  counted-field F.AtEnd field h = absurd (none-some field h)
  counted-field F.EntireContent field h = absurd (none-some field h)
