-- The expressions of upper parameters keep within the limit of quantifiers; and what an answer is by the law of mappings.
use Rattle.std.proofs.Common.{◌≡◌, refl, sym, ◌∙◌, ap, subst, arith, ℕ, ◌≤◌, List, [], ◌∷◌, Bool, true, false, Option, Some, None, map}
use Rattle.std.specs.Prelude.{IfOk, Result, Ok, Err, if◌then◌else◌}
use Rattle.std.specs.List.{All}
use Rattle.std.proofs.lemmas.List.Elements.{All-cons, All-nil}
use Rattle.sp_text.specs.declared.fault.TextFault.{TextFault}
use Rattle.sp_text.specs.declared.limits.TheConstants.{MOST_QUANTIFIERS}
use Rattle.sp_text.specs.Violations.{Judges}
use Rattle.sp_values.specs.declared.value.Value.TheVariants as value
use Rattle.sp_tree.specs.declared.interface.Equation.{Equation}
use Rattle.sp_tree.specs.declared.interface.MappingTree.{MappingTree}
use Rattle.sp_core.specs.declared.expr.Expr.{Expr}
use Rattle.sp_core.specs.declared.expr.Expr.TheVariants as expr
use Rattle.sp_core.specs.declared.function.Param.{Param}
use Rattle.sp_core.specs.declared.mapping.Mapping.{Mapping}
use Rattle.sp_core.specs.Mappings.{IsMappingTo}
use Rattle.sp_core.specs.Measures.{quantifiers}
use Rattle.sp_core.specs.Parts.{Parts}
use Rattle.sp_core.specs.Tree.{Const, Tree, tree}
use Rattle.sp_core.specs.WellFormed.{IsWellFormed}
use Rattle.sp_core.proofs.TreeLemmas.{tree-Const}
use Rattle.sp_definitions.specs.Definitions.{kept}
use Rattle.sp_expand.specs.Sizes.{size, within}
use Rattle.sp_expand.proofs.Scoped.{few_quantifiers}
use Rattle.sp_plain.specs.Text.{text}
use Rattle.sp_scopes.specs.declared.scopes.Scopes.{Scopes}
use Rattle.sp_judge.specs.Translation.{AreFine, translation}
use Rattle.sp_judge.specs.Visible.{Visible}
use Rattle.sp_elaborate.specs.Expressions.{expression_of}
use Rattle.sp_functions.specs.Equations.{equation_name}
use Rattle.sp_functions.specs.Judged.{made}
use Rattle.sp_mapping_laws.specs.Laws.{AreNumbered, MappingLaw}
use Rattle.sp_mapping_laws.proofs.Rows.{tree_of}
use Rattle.sp_mapping_rules.specs.Lower.{AreNamesOf}
use Rattle.sp_mapping_rules.specs.Mappings.{mapping_broken, mapping_of, seen_broken, seen_mapping}
use Rattle.sp_lattice.specs.Order.{Order, bottom_level, top_level}
use Rattle.sp_specification.specs.Ends.{whole_view}
use Rattle.sp_mapping_rules.specs.Parameters.{core_given, param_core, param_cores}
use Rattle.sp_mapping_rules.specs.Rows.{with_types}
use Rattle.sp_mapping_rules.specs.Types.{item_at}
use Rattle.sp_mapping_rules.specs.Upper.{IsMappingFrom}

few_kept : (t : Tree) → quantifiers (kept t) ≤ MOST_QUANTIFIERS
few_kept t = by (within (size t)) refl
  where
    by : (b : Bool) → within (size t) ≡ b → quantifiers (if b then t else Const value.Unknown) ≤ MOST_QUANTIFIERS
    by true e = few_quantifiers t e
    by false e = omega arith

few_core : (s : Visible) (ts : List ℕ) (q : Param) (o : Option Equation) → quantifiers (tree (core_given s ts q o)) ≤ MOST_QUANTIFIERS
few_core s ts q None = subst (λ t. quantifiers t ≤ MOST_QUANTIFIERS) (sym (tree-Const value.Unknown)) (omega arith)
few_core s ts q (Some r) =
    let l = with_types ts r.formals q.formals in
    subst (λ t. quantifiers t ≤ MOST_QUANTIFIERS) (sym (tree_of (made s l (text r.value)))) (few_kept (translation s l (text r.value)))

all_fine : (s : Visible) (ts : List ℕ) (rows : List Equation) (qs : List Param) → AreFine (param_cores s ts rows qs)
all_fine s ts rows [] = All-nil (λ e. quantifiers (tree e) ≤ MOST_QUANTIFIERS)
all_fine s ts rows (q ∷ qs) = All-cons (λ e. quantifiers (tree e) ≤ MOST_QUANTIFIERS) (param_core s ts rows q) (param_cores s ts rows qs) (few_core s ts q (item_at equation_name rows q.name)) (all_fine s ts rows qs)

pub fine_cores : (s : Visible) (ts : List ℕ) (rows : List Equation) (qs : List Param) (es : List Expr) → es ≡ param_cores s ts rows qs → AreFine es
fine_cores s ts rows qs es e = subst AreFine (sym e) (all_fine s ts rows qs)

module _ (u p : Parts) (s : Scopes) (t : MappingTree) (law : MappingLaw) (w : IsWellFormed u) (v : IsWellFormed p) (names : AreNamesOf p s) (numbers : AreNumbered s t) where
  pub is_to : (r : Result Mapping TextFault) → Judges (mapping_broken u p s t) (λ m. m ≡ mapping_of u p s t) r → IfOk r (IsMappingTo p)
  is_to (Ok m) j = subst (IsMappingTo p) (sym j.1) (law u p s t w v names numbers j.0).0
  is_to (Err f) j = tt

  pub is_from : (r : Result Mapping TextFault) → Judges (mapping_broken u p s t) (λ m. m ≡ mapping_of u p s t) r → IfOk r (IsMappingFrom u p)
  is_from (Ok m) j = subst (IsMappingFrom u p) (sym j.1) (law u p s t w v names numbers j.0).1
  is_from (Err f) j = tt

-- between the ends of the lower lattice the interface sees what a mapping does
pub at_ends : (u p : Parts) (s : Scopes) (t : MappingTree) (r : Result Mapping TextFault) (o : Order) (bottom top : ℕ) → o ≡ p.lattice → bottom ≡ bottom_level o → top ≡ top_level o →
    Judges (seen_broken u p (whole_view s bottom top) t) (λ m. m ≡ seen_mapping u (whole_view s bottom top) t) r → Judges (mapping_broken u p s t) (λ m. m ≡ mapping_of u p s t) r
at_ends u p s t r o bottom top same low high h =
    let b = low ∙ ap bottom_level same in
    let c = high ∙ ap top_level same in
    subst (λ z. Judges (seen_broken u p (whole_view s (bottom_level p.lattice) z) t) (λ m. m ≡ seen_mapping u (whole_view s (bottom_level p.lattice) z) t) r) c
    (subst (λ z. Judges (seen_broken u p (whole_view s z top) t) (λ m. m ≡ seen_mapping u (whole_view s z top) t) r) b h)
