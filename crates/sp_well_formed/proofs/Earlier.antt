-- A derivation that breaks nothing looks at earlier derived functions alone, and at others.
use Rattle.std.proofs.Common.{◌≡◌, sym, ◌∙◌, ap, subst, rules, arith, ℕ, zero, suc, ◌+◌, ◌<◌, List, [], ◌∷◌, ◌++◌, false, Some}
use Rattle.std.specs.Prelude.{IsTrue, nat_lt, not, slice_get, ◌&&◌}
use Rattle.std.proofs.lemmas.Option.{slice_get_within}
use Rattle.sp_text.specs.declared.fault.Rule.TheVariants as rule
use Rattle.sp_values.specs.declared.value.Ty.{Ty}
use Rattle.sp_values.specs.declared.value.Ty.TheVariants as ty
use Rattle.sp_core.specs.declared.function.Function.{Function}
use Rattle.sp_core.specs.declared.function.Kind.{Kind}
use Rattle.sp_core.specs.declared.function.Kind.TheVariants as kind
use Rattle.sp_core.specs.Machine.{types_of}
use Rattle.sp_core.specs.Measures.{Anything, LookAt, LooksAt, Nothing}
use Rattle.sp_core.specs.Tree.{Tree, Trees}
use Rattle.sp_core.specs.Tree as core
use Rattle.sp_core.specs.Typing.{HasType, HaveTypes, Signature, is_type}
use Rattle.sp_core.specs.WellFormed.{IsEarlier, IsEarlierAs}
use Rattle.sp_plain.specs.Text.{Text}
use Rattle.sp_scopes.specs.declared.heads.Head.{Head}
use Rattle.sp_scopes.specs.declared.heads.Local.{Local}
use Rattle.sp_scopes.specs.declared.heads.Sort.{Sort}
use Rattle.sp_judge.specs.Visible.{Visible}
use Rattle.sp_judge.specs.Translation.{translation}
use Rattle.sp_typed.specs.Fits.{types, kind_sort, AreNumbers, AreTypes}
use Rattle.sp_typed.proofs.Quotes.{looks-weaken}
use Rattle.sp_reads.specs.Reads.{is_flagged}
use Rattle.sp_reads.specs.ReadTexts.{reads, IsClear}
use Rattle.sp_reads.proofs.ReadLaws.{clear}
use Rattle.sp_functions.specs.Judged.{derivation_broken, is_derived, later_flags, made}
use Rattle.sp_functions.specs.Laws.{IsSeenBy}
use Rattle.sp_functions.proofs.Known.{expression, others-none, same_made}
use Rattle.sp_well_formed.proofs.Items.{item_at, no_item, same_get, same_item}

-- what looks at functions that meet two conditions meets both
module _ (P N Q M : ℕ → Type 0) where
  mutual
    looks_both : (e : Tree) → LooksAt P N e → LooksAt Q M e → LooksAt (λ g. P g × Q g) (λ g. N g × M g) e
    looks_both (core.Const v) h k = tt
    looks_both (core.Var j) h k = tt
    looks_both (core.Not a) h k = looks_both a h k
    looks_both (core.Two o a b) h k = (looks_both a h.0 k.0, looks_both b h.1 k.1)
    looks_both (core.If c a b) h k = (looks_both c h.0 k.0, looks_both a h.1 k.1, looks_both b h.2 k.2)
    looks_both (core.Param p ds) h k = look_both ds h k
    looks_both (core.Look g ds) h k = ((h.0, k.0), look_both ds h.1 k.1)
    looks_both (core.Every n t b) h k = looks_both b h k
    looks_both (core.New g ds) h k = ((h.0, k.0), look_both ds h.1 k.1)

    look_both : (ds : Trees) → LookAt P N ds → LookAt Q M ds → LookAt (λ g. P g × Q g) (λ g. N g × M g) ds
    look_both core.none h k = tt
    look_both (core.more d ds) h k = (looks_both d h.0 k.0, look_both ds h.1 k.1)

-- the V-function is one of the signature
abbrev IsThere : Signature → ℕ → Type 0
IsThere sg g = (f : Function) × (slice_get sg.functions g ≡ Some f)

module _ (sg : Signature) where
  mutual
    there : (e : Tree) (xs : List Ty) (t : Ty) → HasType sg xs e t → LooksAt (IsThere sg) (IsThere sg) e
    there (core.Const v) xs t h = tt
    there (core.Var j) xs t h = tt
    there (core.Not a) xs t h = there a xs ty.Boolean h.1
    there (core.Two o a b) xs t h = (there a xs h.0 h.2, there b xs h.0 h.3)
    there (core.If c a b) xs t h = (there c xs ty.Boolean h.0, there a xs t h.1, there b xs t h.2)
    there (core.Param p ds) xs t h = all_there ds xs (types_of h.0.formals) h.3
    there (core.Look g ds) xs t h = ((h.0, h.1), all_there ds xs (types_of h.0.formals) h.3)
    there (core.Every n u b) xs t h = there b (xs ++ u ∷ []) ty.Boolean h.3
    there (core.New g ds) xs t h = ((h.0, h.1), all_there ds xs (types_of h.0.formals) h.3)

    all_there : (ds : Trees) (xs ts : List Ty) → HaveTypes sg xs ds ts → LookAt (IsThere sg) (IsThere sg) ds
    all_there core.none xs [] h = tt
    all_there core.none xs (t ∷ ts) h = tt
    all_there (core.more d ds) xs [] h = absurd h
    all_there (core.more d ds) xs (t ∷ ts) h = (there d xs t h.0, all_there ds xs ts h.1)

later_flagged : (g n : ℕ) (hs : List Head) (k : ℕ) (h : Head) → slice_get hs k ≡ Some h → is_flagged (slice_get (later_flags g n hs) k) ≡ (is_derived h.sort && not (nat_lt (n + k) g))
later_flagged g n [] k h e = no_item k h e
later_flagged g n (x ∷ hs) zero h e =
    let z : n ≡ n + 0 = omega arith in
    (λ j. is_derived (same_item x h e j).sort && not (nat_lt (z j) g))
later_flagged g n (x ∷ hs) (suc k) h e =
    let z : suc n + k ≡ n + suc k = omega arith in
    later_flagged g (suc n) hs k h e ∙ ap (λ z. is_derived h.sort && not (nat_lt z g)) z

earlier_kind : (g k : ℕ) (d : Kind) (u : Sort) → kind_sort d ≡ u → (is_derived u && not (nat_lt k g)) ≡ false → IsEarlierAs g k d
earlier_kind g k (kind.Primitive t x) u a e = tt
earlier_kind g k (kind.Operation es) u a e = tt
earlier_kind g k (kind.Both t es) u a e = tt
earlier_kind g k (kind.Derived t x) u a e = late (subst (λ u. (is_derived u && not (nat_lt k g)) ≡ false) (sym a) e)
  where
    late : not (nat_lt k g) ≡ false → k < g
    late e = grind (arith, rules)

-- what a derivation that breaks nothing is made to
pub reads_earlier : (sg : Signature) (s : Visible) → IsSeenBy sg s → (g : ℕ) (l : List Local) → AreTypes sg l → (t : Ty) → IsTrue (is_type sg t) →
    (e : Text) → AreNumbers e → derivation_broken s g l t e ≡ [] → LooksAt (IsEarlier sg.functions g) Nothing (made s l e)
reads_earlier sg s seen g l a t u e n h =
    let flags = later_flags g 0 s.names.functions in
    let others = reads s flags rule.Cyclic l e in
    let y = expression sg s seen l a t u e n others h in
    let clean = clear flags rule.Cyclic s l e (others-none sg s seen l t e others h) in
    let both = looks_both (IsClear flags) (IsClear flags) (IsThere sg) (IsThere sg) (translation s l e) clean (there sg (translation s l e) (types l) t y.typed) in
    subst (LooksAt (IsEarlier sg.functions g) Nothing) (sym (same_made sg s seen l t e others h))
    (looks-weaken (λ g. (IsClear flags g × IsThere sg g) × Anything g) (λ g. (IsClear flags g × IsThere sg g) × Nothing g) (IsEarlier sg.functions g) Nothing (λ k x. one k x.0) (λ k x. x.1) (translation s l e)
    (looks_both (λ g. IsClear flags g × IsThere sg g) (λ g. IsClear flags g × IsThere sg g) Anything Nothing (translation s l e) both y.no_new))
  where
    one : (k : ℕ) → IsClear (later_flags g 0 s.names.functions) k × IsThere sg k → IsEarlier sg.functions g k
    one k x f e =
        let lt = slice_get_within sg.functions k x.1.0 x.1.1 in
        let h = item_at s.names.functions k (omega (arith, lt, seen.functions)) in
        let z = seen.scope.functions k h.0 h.1 in
        let i : z.0 ≡ f = same_get z.0 f (slice_get sg.functions k) z.1 e in
        let flag = sym (later_flagged g 0 s.names.functions k h.0 h.1) ∙ x.0 in
        let n : 0 + k ≡ k = omega arith in
        subst (λ f. IsEarlierAs g k f.kind) i (earlier_kind g k z.0.kind h.0.sort z.2.sort (subst (λ m. (is_derived h.0.sort && not (nat_lt m g)) ≡ false) n flag))
