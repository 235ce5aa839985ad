-- What is made of a text.
use Rattle.std.proofs.Common.{◌≡◌, sym, ◌∙◌, ap, subst, rules, arith, ℕ, ◌<◌, List, [], ◌∷◌, ◌++◌, Option, Some, None, suc, ◌+◌, length, take, get_or}
use Rattle.std.proofs.lemmas.List.{length-take, take_more}
use Rattle.std.specs.Prelude.{if◌then◌else◌, nat_lt, min, not, ◌&&◌}
use Rattle.sp_values.specs.declared.value.Value.TheVariants as value
use Rattle.sp_core.specs.declared.expr.Expr.{Expr}
use Rattle.sp_core.specs.Measures.{quantifiers}
use Rattle.sp_core.specs.Tree.{Tree, Const, tree}
use Rattle.sp_expand.specs.declared.size.Size.{Size}
use Rattle.sp_expand.specs.Parts.{IsMade}
use Rattle.sp_expand.specs.Sizes.{size}
use Rattle.sp_expand.proofs.Limits.{size-is}
use Rattle.sp_scopes.specs.declared.heads.Head.{Head}
use Rattle.sp_definitions.specs.Definitions.{kept}
use Rattle.sp_functions.specs.Judged.{is_derived, later_flags}

pub kept_some : (t : Tree) (o : Option Expr) (e : Expr) → IsMade t o → o ≡ Some e → tree e ≡ kept t
kept_some t o e h i = let m = subst (IsMade t) i h in m.0 ∙ ap (λ b. if b then t else Const value.Unknown) (sym m.1)

pub kept_none : (t : Tree) (o : Option Expr) → IsMade t o → o ≡ None → Const value.Unknown ≡ kept t
kept_none t o h i = ap (λ b. if b then t else Const value.Unknown) (sym (subst (IsMade t) i h))

-- a size has a quantifier exactly where its tree has
pub quantified : (t : Tree) (x : Size) → x ≡ size t → nat_lt 0 x.quantifiers ≡ nat_lt 0 (quantifiers t)
quantified t x h = ap (λ z. nat_lt 0 z.quantifiers) (h ∙ size-is t) ∙ same (quantifiers t)
  where
    same : (q : ℕ) → nat_lt 0 (min 4 q) ≡ nat_lt 0 q
    same q = grind (arith, rules)

-- flags, one more
later_more : (g n : ℕ) (hs : List Head) (h : Head) → later_flags g n hs ++ (is_derived h.sort && not (nat_lt (n + length hs) g)) ∷ [] ≡ later_flags g n (hs ++ h ∷ [])
later_more g n [] h = let z : n + 0 ≡ n = omega arith in ap (λ m. (is_derived h.sort && not (nat_lt m g)) ∷ []) z
later_more g n (x ∷ hs) h =
    let z : n + suc (length hs) ≡ suc n + length hs = omega arith in
    ap (λ zs. (is_derived x.sort && not (nat_lt n g)) ∷ zs) (ap (λ m. later_flags g (suc n) hs ++ (is_derived h.sort && not (nat_lt m g)) ∷ []) z ∙ later_more g (suc n) hs h)

pub later_next : (g : ℕ) (hs : List Head) (i k : ℕ) (h : Head) → i < length hs → h ≡ get_or hs i h → k ≡ i →
    later_flags g 0 (take i hs) ++ (is_derived h.sort && not (nat_lt k g)) ∷ [] ≡ later_flags g 0 (take (i + 1) hs)
later_next g hs i k h l at same =
    let m : k ≡ 0 + length (take i hs) = omega (arith, length-take i hs, l, same) in
    ap (λ z. later_flags g 0 (take i hs) ++ (is_derived h.sort && not (nat_lt z g)) ∷ []) m
    ∙ later_more g 0 (take i hs) h ∙ ap (later_flags g 0) (sym (take_more hs i h l ∙ ap (λ z. take i hs ++ z ∷ []) (sym at)))
