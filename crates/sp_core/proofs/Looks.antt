-- What a state gives at a V-function is its own equation: an entry, an initial value, or a derivation's value.
use Rattle.std.proofs.Common.{◌≡◌, refl, arith, ℕ, zero, suc, ◌+◌, ◌<◌, List, length, Option, Some, None}
use Rattle.std.specs.Prelude.{slice_get}
use Rattle.std.proofs.lemmas.Option.{slice_get_within}
use Rattle.sp_values.specs.declared.value.Value.{Value}
use Rattle.sp_core.specs.declared.function.Function.{Function}
use Rattle.sp_core.specs.declared.function.Kind.{Kind}
use Rattle.sp_core.specs.declared.function.Kind.TheVariants as kind
use Rattle.sp_core.specs.Measures.{LooksAt, Nothing, rank, rank_by, rank_of}
use Rattle.sp_core.specs.Tree.{tree}
use Rattle.sp_core.specs.Values.{World, Reads, Store, look, reads_by, reads_under}
use Rattle.sp_core.specs.WellFormed.{IsEarlier, IsEarlierAs}
use Rattle.sp_core.proofs.Agree.{value_agrees}

-- a derivation looks only at earlier derived functions and at primitive ones
abbrev pub IsOrderedAs : List Function → ℕ → Kind → Type 0
IsOrderedAs fs g (kind.Derived t e) = LooksAt (IsEarlier fs g) Nothing (tree e)
IsOrderedAs fs g k = Unit {0}

pub record AreOrdered (fs : List Function) : Type 0 where
  pub each : (g : ℕ) (f : Function) → slice_get fs g ≡ Some f → IsOrderedAs fs g f.kind

earlier_rank : (g h : ℕ) (k : Kind) → IsEarlierAs g h k → rank_by h k < g + 1
earlier_rank g h (kind.Primitive t i) e = omega arith
earlier_rank g h (kind.Derived t d) e = omega (arith, e)
earlier_rank g h (kind.Operation es) e = omega arith
earlier_rank g h (kind.Both t es) e = omega arith

-- an earlier function has a lower rank
pub rank_below : (fs : List Function) (g h : ℕ) → IsEarlier fs g h → rank fs h < g + 1
rank_below fs g h e = by (slice_get fs h) refl
  where
    by : (o : Option Function) → slice_get fs h ≡ o → rank_of h o < g + 1
    by None p = omega arith
    by (Some f) p = earlier_rank g h f.kind (e f p)

module _ (w : World) (fs : List Function) (ordered : AreOrdered fs) (s : Store) where
  -- what functions of lower rank give decides what the function gives
  by_kind : (b c : Reads) (g : ℕ) (f : Function) (k : Kind) → IsOrderedAs fs g k → ((h : ℕ) (v : List Value) → rank fs h < rank_by g k → b h v ≡ c h v) → (v : List Value) → reads_by w s b (Some (record f { kind = k })) g v ≡ reads_by w s c (Some (record f { kind = k })) g v
  by_kind b c g f (kind.Primitive t e) ok agree v = refl
  by_kind b c g f (kind.Derived t e) ok agree v = value_agrees w b b c c (IsEarlier fs g) (λ h u l. agree h u (rank_below fs g h l)) (tree e) v ok
  by_kind b c g f (kind.Operation es) ok agree v = refl
  by_kind b c g f (kind.Both t es) ok agree v = refl

  by_function : (b c : Reads) (g : ℕ) (o : Option Function) → slice_get fs g ≡ o → ((h : ℕ) (v : List Value) → rank fs h < rank_of g o → b h v ≡ c h v) → (v : List Value) → reads_by w s b o g v ≡ reads_by w s c o g v
  by_function b c g None e agree v = refl
  by_function b c g (Some f) e agree v = by_kind b c g f f.kind (ordered.each g f e) agree v

  stable : (n m : ℕ) (g : ℕ) (v : List Value) → rank fs g < n → rank fs g < m → reads_under w fs s n g v ≡ reads_under w fs s m g v
  stable zero m g v p q = absurd (omega (arith, p))
  stable (suc n) zero g v p q = absurd (omega (arith, q))
  stable (suc n) (suc m) g v p q = by_function (reads_under w fs s n) (reads_under w fs s m) g (slice_get fs g) refl (λ h u l. stable n m h u (omega arith) (omega arith)) v

  small : (g : ℕ) (k : Kind) → g < length fs → rank_by g k < length fs + 1
  small g (kind.Primitive t i) h = omega arith
  small g (kind.Derived t i) h = omega arith
  small g (kind.Operation es) h = omega arith
  small g (kind.Both t es) h = omega arith

  pub rank_small : (g : ℕ) (o : Option Function) → slice_get fs g ≡ o → rank_of g o < length fs + 1
  rank_small g None e = omega arith
  rank_small g (Some f) e = small g f.kind (slice_get_within fs g f e)

  -- the entry, or the initial value, or the derivation's value in the same state
  pub look_is : (g : ℕ) (v : List Value) → look w fs s g v ≡ reads_by w s (look w fs s) (slice_get fs g) g v
  look_is g v = let h : rank fs g < length fs + 1 = rank_small g (slice_get fs g) refl in stable (length fs + 1) (suc (length fs + 1)) g v h (omega arith)
