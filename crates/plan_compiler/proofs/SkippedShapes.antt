-- Selections of which nothing is counted in a shape.
use Rattle.std.proofs.Common.{◌≡◌, ap, ◌∙◌, List, [], map, Box, Global}
use Rattle.ft_base.specs.declared.filter.Filter.{Filter}
use Rattle.ft_base.specs.declared.options.Options.{Options}
use Rattle.ft_base.specs.declared.token.Token.{Token}
use Rattle.ft_base.specs.Selection.{Form}
use Rattle.ft_syntax.specs.View.{form, forms_of}
use Rattle.ft_syntax.specs.declared.selection.Selection.{Selection}
use Rattle.ft_syntax.specs.declared.selection.Selection as S
use Rattle.ft_syntax.proofs.Views.{form-Or, form-And, form-MildNot}
use Rattle.all_matches.specs.Variants.{Lexicon}
use Rattle.counted_shapes.specs.Shapes.{bare_hits, items_of}
use Rattle.plan_compiler.proofs.ServedLemmas.{form-Not, form-Filtered}

module _ (lexicon : Lexicon) (options : Options) (selection : Selection) (tokens : List Token) where
  pub no_hits-Or : (parts : List Selection) → selection ≡ S.Or parts → bare_hits lexicon options tokens (form selection) ≡ []
  unfolding bare_hits
  no_hits-Or parts e = ap (bare_hits lexicon options tokens) (ap form e ∙ form-Or parts)

  pub no_hits-And : (parts : List Selection) → selection ≡ S.And parts → bare_hits lexicon options tokens (form selection) ≡ []
  unfolding bare_hits
  no_hits-And parts e = ap (bare_hits lexicon options tokens) (ap form e ∙ form-And parts)

  pub no_hits-MildNot : (left right : Box Selection Global) → selection ≡ S.MildNot left right → bare_hits lexicon options tokens (form selection) ≡ []
  unfolding bare_hits
  no_hits-MildNot left right e = ap (bare_hits lexicon options tokens) (ap form e ∙ form-MildNot left right)

  pub no_hits-Not : (operand : Box Selection Global) → selection ≡ S.Not operand → bare_hits lexicon options tokens (form selection) ≡ []
  unfolding bare_hits
  no_hits-Not operand e = ap (bare_hits lexicon options tokens) (ap form e ∙ form-Not operand)

  pub no_hits-Filtered : (operand : Box Selection Global) (kind : Filter) → selection ≡ S.Filtered operand kind → bare_hits lexicon options tokens (form selection) ≡ []
  unfolding bare_hits
  no_hits-Filtered operand kind e = ap (bare_hits lexicon options tokens) (ap form e ∙ form-Filtered operand kind)

  pub no_items-Or : (parts : List Selection) → selection ≡ S.Or parts → items_of lexicon options tokens (form selection) ≡ []
  unfolding items_of
  no_items-Or parts e = ap (items_of lexicon options tokens) (ap form e ∙ form-Or parts)

  pub no_items-MildNot : (left right : Box Selection Global) → selection ≡ S.MildNot left right → items_of lexicon options tokens (form selection) ≡ []
  unfolding items_of
  no_items-MildNot left right e = ap (items_of lexicon options tokens) (ap form e ∙ form-MildNot left right)

  pub no_items-Filtered : (operand : Box Selection Global) (kind : Filter) → selection ≡ S.Filtered operand kind → items_of lexicon options tokens (form selection) ≡ []
  unfolding items_of
  no_items-Filtered operand kind e = ap (items_of lexicon options tokens) (ap form e ∙ form-Filtered operand kind)
