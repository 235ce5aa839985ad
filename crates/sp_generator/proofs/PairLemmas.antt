-- The formulas of two items, by what they do.
use Rattle.std.proofs.Common.{◌≡◌, ◌∙◌, ap, ℕ, true, List, [], ◌∷◌, ◌++◌, map}
use Rattle.std.specs.Prelude.{◌==◌, if◌then◌else◌}
use denote.Bor.{Bor}
use Rattle.sp_values.specs.declared.value.Ty.{Ty}
use Rattle.sp_core.specs.declared.expr.Expr.{Expr}
use Rattle.sp_core.specs.Parts.{Parts}
use Rattle.sp_core.specs.Tree.{Tree, tree}
use Rattle.sp_formulas.specs.Formulas.{agreement_of}
use Rattle.sp_generator.specs.declared.items.Deed.TheVariants as collected
use Rattle.sp_generator.specs.declared.pairs.Given.{Given}
use Rattle.sp_generator.specs.declared.pairs.Pair.{Pair}
use Rattle.sp_generator.specs.Collected.{deed_as}
use Rattle.sp_generator.specs.Pairs.{agreement_at, agreement_over, agreements_at, both_assumed, first_of, raised_in, second_of}

module _ (p : Parts) (a : Pair) where
  pub agreed_is : (x y : Given) (vars : List Ty) (made : List Expr) (other : Tree) → vars ≡ (first_of a).vars ++ (second_of a).vars → map tree made ≡ both_assumed a (map tree x.args.now) (map tree y.args.now)
      → other ≡ raised_in a (tree y.value.now) → agreement_over p a.fun a.function.now vars (map tree made) (tree x.value.now) other ≡ agreement_at p a x y
  agreed_is x y vars made other v m o = λ i. agreement_over p a.fun a.function.now (v i) (m i) (tree x.value.now) (o i)

  module _ (g : ℕ) (ds : Bor (List Expr)) (e : Bor Expr) (first : a.first.now.deed ≡ collected.Change g ds e) (h : ℕ) (es : Bor (List Expr)) (d : Bor Expr) (second : a.second.now.deed ≡ collected.Change h es d) where
    by_functions : agreements_at p a ≡ (if g == h then agreement_at p a (record { args = ds; value = e }) (record { args = es; value = d }) ∷ [] else [])
    by_functions = λ i. agreement_of p a.fun a.function.now (first_of a) (second_of a) (deed_as (first i)) (deed_as (second i))

    pub one_function : (g == h) ≡ true → agreements_at p a ≡ agreement_at p a (record { args = ds; value = e }) (record { args = es; value = d }) ∷ []
    one_function q = by_functions ∙ ap (λ b. if b then agreement_at p a (record { args = ds; value = e }) (record { args = es; value = d }) ∷ [] else []) q
