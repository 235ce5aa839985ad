-- What the references of a scoped expression consist of.
use Rattle.std.proofs.Common.{◌≡◌, subst, arith, ℕ, suc, ◌+◌, Bool, true, false, List, [], ◌∷◌, ◌++◌, length, map}
use Rattle.std.specs.List.{All}
use Rattle.std.proofs.lemmas.List.Elements.{All-cons, All-nil, All-append, All-map, All-weaker, All-push}
use Rattle.sp_values.specs.declared.value.Ty.{Ty}
use Rattle.sp_values.specs.declared.value.Op.{Op}
use Rattle.sp_values.specs.declared.value.Op.TheVariants as op
use Rattle.sp_core.specs.Tree.{Tree, Trees, Const, Var, Not, Two, If, Param, Look, Every, New, none, more}
use Rattle.sp_formulas.specs.References.{Reference, under, within, right_of, references, references_in}
use Rattle.sp_hold.proofs.Scopes.{IsScoped, AreScoped, Fits, FitAll}
use Rattle.sp_hold.proofs.MoveLemmas.{fits, fit_all}

pub record ReferenceFits (n : ℕ) (r : Reference) : Type 0 where
  pub path : All (Fits (n + length r.vars)) r.path
  pub args : FitAll (n + length r.vars) r.args

under_fits : (n : ℕ) (c : Tree) → IsScoped n c → (rs : List Reference) → All (ReferenceFits n) rs → All (ReferenceFits n) (map (under c) rs)
under_fits n c s rs h = All-map (ReferenceFits n) (under c) rs (All-weaker (ReferenceFits n) (λ r. ReferenceFits n (under c r)) (λ r k. record { path = All-cons (Fits (n + length r.vars)) c r.path (fits c n (n + length r.vars) (omega arith) s) k.path; args = k.args }) rs h)

within_fits : (n : ℕ) (t : Ty) (rs : List Reference) → All (ReferenceFits (suc n)) rs → All (ReferenceFits n) (map (within t) rs)
within_fits n t rs h = All-map (ReferenceFits n) (within t) rs (All-weaker (ReferenceFits (suc n)) (λ r. ReferenceFits n (within t r)) (λ r k.
    let e : suc n + length r.vars ≡ n + length (t ∷ r.vars) = omega arith in
    record { path = subst (λ m. All (Fits m) r.path) e k.path; args = subst (λ m. FitAll m r.args) e k.args }) rs h)

right_fits : (o : Op) (n : ℕ) (a : Tree) → IsScoped n a → (rs : List Reference) → All (ReferenceFits n) rs → All (ReferenceFits n) (right_of o a rs)
right_fits op.And n a s rs h = under_fits n a s rs h
right_fits op.Or n a s rs h = under_fits n (Not a) s rs h
right_fits op.Same n a s rs h = h
right_fits op.LevelLe n a s rs h = h
right_fits op.IntLe n a s rs h = h
right_fits op.IntLt n a s rs h = h
right_fits op.Add n a s rs h = h
right_fits op.Sub n a s rs h = h
right_fits op.Mul n a s rs h = h
right_fits op.Lub n a s rs h = h
right_fits op.Glb n a s rs h = h

with_itself : (n : ℕ) (b : Bool) (g : ℕ) (ds : Trees) → AreScoped n ds → (rs : List Reference) → All (ReferenceFits n) rs → All (ReferenceFits n) (rs ++ record { vars = []; path = []; is_new = b; fun = g; args = ds } ∷ [])
with_itself n b g ds s rs h = All-push (ReferenceFits n) rs _ h (record { path = All-nil (Fits (n + 0)); args = fit_all ds n (n + 0) (omega arith) s })

mutual
  pub references_fit : (e : Tree) (n : ℕ) → IsScoped n e → All (ReferenceFits n) (references e)
  references_fit (Const v) n s = All-nil (ReferenceFits n)
  references_fit (Var k) n s = All-nil (ReferenceFits n)
  references_fit (Not a) n s = references_fit a n s
  references_fit (Two o a b) n s = All-append (ReferenceFits n) (references a) (right_of o a (references b)) (references_fit a n s.0) (right_fits o n a s.0 (references b) (references_fit b n s.1))
  references_fit (If c a b) n s =
      All-append (ReferenceFits n) (references c) _ (references_fit c n s.0)
      (All-append (ReferenceFits n) (map (under c) (references a)) (map (under (Not c)) (references b)) (under_fits n c s.0 (references a) (references_fit a n s.1)) (under_fits n (Not c) s.0 (references b) (references_fit b n s.2)))
  references_fit (Param p ds) n s = all_references_fit ds n s
  references_fit (Look g ds) n s = with_itself n false g ds s (references_in ds) (all_references_fit ds n s)
  references_fit (Every k t b) n s = within_fits n t (references b) (references_fit b (suc n) s.1)
  references_fit (New g ds) n s = with_itself n true g ds s (references_in ds) (all_references_fit ds n s)

  pub all_references_fit : (ds : Trees) (n : ℕ) → AreScoped n ds → All (ReferenceFits n) (references_in ds)
  all_references_fit none n s = All-nil (ReferenceFits n)
  all_references_fit (more d ds) n s = All-append (ReferenceFits n) (references d) (references_in ds) (references_fit d n s.0) (all_references_fit ds n s.1)
