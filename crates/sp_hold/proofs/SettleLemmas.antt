-- What settled expressions consist of.
use Rattle.std.proofs.Common.{◌≡◌, ap, subst, arith, ℕ, suc, ◌+◌, ◌-◌, ◌<◌, Bool, true, false}
use Rattle.std.specs.Prelude.{if◌then◌else◌, nat_lt}
use Rattle.sp_core.specs.Tree.{Tree, Trees, Const, Var, Not, Two, If, Param, Look, Every, New, none, more}
use Rattle.sp_hold.proofs.Scopes.{IsScoped, AreScoped, Fits, FitAll}
use Rattle.sp_formulas.specs.Moves.{raise, raise_all, settle, settle_all}

small : (b : Bool) (k d n : ℕ) → k < n → (if b then k else k + d) < n + d
small true k d n h = omega (arith, h)
small false k d n h = omega (arith, h)

mutual
  pub raise_scoped : (m d : ℕ) (e : Tree) (n : ℕ) → IsScoped n e → IsScoped (n + d) (raise m d e)
  raise_scoped m d (Const v) n s = tt
  raise_scoped m d (Var k) n s = small (nat_lt k m) k d n s
  raise_scoped m d (Not a) n s = raise_scoped m d a n s
  raise_scoped m d (Two o a b) n s = (raise_scoped m d a n s.0, raise_scoped m d b n s.1)
  raise_scoped m d (If c a b) n s = (raise_scoped m d c n s.0, raise_scoped m d a n s.1, raise_scoped m d b n s.2)
  raise_scoped m d (Param p ds) n s = raise_all_scoped m d ds n s
  raise_scoped m d (Look g ds) n s = raise_all_scoped m d ds n s
  raise_scoped m d (Every k t b) n s = let e : suc n + d ≡ suc (n + d) = omega arith in (ap (λ k. k + d) s.0, subst (λ j. IsScoped j (raise m d b)) e (raise_scoped m d b (suc n) s.1))
  raise_scoped m d (New g ds) n s = raise_all_scoped m d ds n s

  pub raise_all_scoped : (m d : ℕ) (ds : Trees) (n : ℕ) → AreScoped n ds → AreScoped (n + d) (raise_all m d ds)
  raise_all_scoped m d none n s = tt
  raise_all_scoped m d (more e es) n s = (raise_scoped m d e n s.0, raise_all_scoped m d es n s.1)

mutual
  pub settle_scoped : (n : ℕ) (e : Tree) → Fits n e → IsScoped n (settle n e)
  settle_scoped n (Const v) s = tt
  settle_scoped n (Var k) s = s
  settle_scoped n (Not a) s = settle_scoped n a s
  settle_scoped n (Two o a b) s = (settle_scoped n a s.0, settle_scoped n b s.1)
  settle_scoped n (If c a b) s = (settle_scoped n c s.0, settle_scoped n a s.1, settle_scoped n b s.2)
  settle_scoped n (Param p ds) s = settle_all_scoped n ds s
  settle_scoped n (Look g ds) s = settle_all_scoped n ds s
  settle_scoped n (Every k t b) s = let e : suc k + (n - k) ≡ suc n = omega (arith, s.0) in (omega (arith, s.0), subst (λ j. IsScoped j (raise k (n - k) b)) e (raise_scoped k (n - k) b (suc k) s.1))
  settle_scoped n (New g ds) s = settle_all_scoped n ds s

  pub settle_all_scoped : (n : ℕ) (ds : Trees) → FitAll n ds → AreScoped n (settle_all n ds)
  settle_all_scoped n none s = tt
  settle_all_scoped n (more d ds) s = (settle_scoped n d s.0, settle_all_scoped n ds s.1)
