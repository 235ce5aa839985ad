-- Expanded expressions keep to their variables.
use Rattle.std.proofs.Common.{◌≡◌, refl, sym, ◌∙◌, ap, rules, arith, ℕ, zero, suc, ◌+◌, ◌≤◌, ◌<◌, Bool, true, false, List, [], ◌∷◌, Option, Some, None}
use Rattle.std.specs.Prelude.{nat_lt, if◌then◌else◌}
use Rattle.sp_text.specs.declared.limits.TheConstants.{MOST_QUANTIFIERS}
use Rattle.sp_core.specs.declared.expr.Expr.{Expr}
use Rattle.sp_core.specs.Measures.{nodes, quantifiers, quantifiers_in}
use Rattle.sp_core.specs.Tree.{Tree, Trees, Const, Var, Not, Two, If, Param, Look, Every, New, none, more, tree}
use Rattle.sp_expand.specs.Expansion.{nth_tree, raise, raise_all, joined, under, put, put_all, numbers, numbers_in, IsScoped, AreScoped}
use Rattle.sp_expand.specs.Parts.{IsMade, AreParts, made_numbers, parts_numbers}
use Rattle.sp_expand.specs.Sizes.{height, size, within}
use Rattle.sp_expand.specs.declared.part.Part.{Part}
use Rattle.sp_expand.proofs.Limits.{sized, size-is}

mutual
  pub numbers_scoped : (e : Tree) (n : ℕ) → IsScoped n e → numbers e ≤ n + quantifiers e
  numbers_scoped (Const v) n s = omega arith
  numbers_scoped (Var k) n s = omega (arith, s)
  numbers_scoped (Not a) n s = numbers_scoped a n s
  numbers_scoped (Two o a b) n s = omega (arith, numbers_scoped a n s.0, numbers_scoped b n s.1)
  numbers_scoped (If c a b) n s = omega (arith, numbers_scoped c n s.0, numbers_scoped a n s.1, numbers_scoped b n s.2)
  numbers_scoped (Param p ds) n s = numbers_scoped_in ds n s
  numbers_scoped (Look g ds) n s = numbers_scoped_in ds n s
  numbers_scoped (Every k t b) n s = omega (arith, s.0, numbers_scoped b (suc n) s.1)
  numbers_scoped (New g ds) n s = numbers_scoped_in ds n s

  numbers_scoped_in : (ds : Trees) (n : ℕ) → AreScoped n ds → numbers_in ds ≤ n + quantifiers_in ds
  numbers_scoped_in none n s = omega arith
  numbers_scoped_in (more d ds) n s = omega (arith, numbers_scoped d n s.0, numbers_scoped_in ds n s.1)

below : (b : Bool) (k n : ℕ) → k < n → (if b then k else suc k) < suc n
below true k n h = omega (arith, h)
below false k n h = omega (arith, h)

mutual
  pub scoped_raise : (e : Tree) (m n : ℕ) → IsScoped n e → IsScoped (suc n) (raise m e)
  scoped_raise (Const v) m n s = tt
  scoped_raise (Var k) m n s = below (nat_lt k m) k n s
  scoped_raise (Not a) m n s = scoped_raise a m n s
  scoped_raise (Two o a b) m n s = (scoped_raise a m n s.0, scoped_raise b m n s.1)
  scoped_raise (If c a b) m n s = (scoped_raise c m n s.0, scoped_raise a m n s.1, scoped_raise b m n s.2)
  scoped_raise (Param p ds) m n s = scoped_raise_all ds m n s
  scoped_raise (Look g ds) m n s = scoped_raise_all ds m n s
  scoped_raise (Every k t b) m n s = (ap suc s.0, scoped_raise b m (suc n) s.1)
  scoped_raise (New g ds) m n s = scoped_raise_all ds m n s

  scoped_raise_all : (ds : Trees) (m n : ℕ) → AreScoped n ds → AreScoped (suc n) (raise_all m ds)
  scoped_raise_all none m n s = tt
  scoped_raise_all (more d ds) m n s = (scoped_raise d m n s.0, scoped_raise_all ds m n s.1)

scoped_joined : (ds : Trees) (a : Tree) (n : ℕ) → AreScoped n ds → IsScoped n a → AreScoped n (joined ds a)
scoped_joined none a n s h = (h, tt)
scoped_joined (more d ds) a n s h = (s.0, scoped_joined ds a n s.1 h)

scoped_nth : (ds : Trees) (k n : ℕ) → AreScoped n ds → IsScoped n (nth_tree ds k)
scoped_nth none k n s = tt
scoped_nth (more d ds) zero n s = s.0
scoped_nth (more d ds) (suc k) n s = scoped_nth ds k n s.1

mutual
  -- whatever the expression is
  pub scoped_put : (e : Tree) (n : ℕ) (ds : Trees) → AreScoped n ds → IsScoped n (put n ds e)
  scoped_put (Const v) n ds s = tt
  scoped_put (Var k) n ds s = scoped_nth ds k n s
  scoped_put (Not a) n ds s = scoped_put a n ds s
  scoped_put (Two o a b) n ds s = (scoped_put a n ds s, scoped_put b n ds s)
  scoped_put (If c a b) n ds s = (scoped_put c n ds s, scoped_put a n ds s, scoped_put b n ds s)
  scoped_put (Param p es) n ds s = scoped_put_all es n ds s
  scoped_put (Look g es) n ds s = scoped_put_all es n ds s
  scoped_put (Every k t b) n ds s = (refl, scoped_put b (suc n) (under n ds) (scoped_joined (raise_all n ds) (Var n) (suc n) (scoped_raise_all ds n n s) (omega arith)))
  scoped_put (New g es) n ds s = scoped_put_all es n ds s

  scoped_put_all : (es : Trees) (n : ℕ) (ds : Trees) → AreScoped n ds → AreScoped n (put_all n ds es)
  scoped_put_all none n ds s = tt
  scoped_put_all (more e es) n ds s = (scoped_put e n ds s, scoped_put_all es n ds s)

few_sized : (h n q : ℕ) → within (sized h n q) ≡ true → q ≤ MOST_QUANTIFIERS
few_sized h n q w = grind (arith, rules)

pub few_quantifiers : (e : Tree) → within (size e) ≡ true → quantifiers e ≤ MOST_QUANTIFIERS
few_quantifiers e w = few_sized (height e) (nodes e) (quantifiers e) (ap within (sym (size-is e)) ∙ w)

made_few : (t : Tree) (n : ℕ) (c : Option Expr) → IsScoped n t → IsMade t c → made_numbers c ≤ n + MOST_QUANTIFIERS
made_few t n None s h = omega arith
made_few t n (Some e) s h =
    let a : numbers (tree e) ≡ numbers t = ap numbers h.0 in
    omega (arith, numbers_scoped t n s, few_quantifiers t h.1)

pub parts_few : (ds : Trees) (ps : List Part) (n : ℕ) → AreScoped n ds → AreParts ds ps → parts_numbers ps ≤ n + MOST_QUANTIFIERS
parts_few none [] n s h = omega arith
parts_few none (p ∷ ps) n s h = absurd h
parts_few (more d ds) [] n s h = absurd h
parts_few (more d ds) (p ∷ ps) n s h = omega (arith, made_few d n p.core s.0 h.0.1, parts_few ds ps n s.1 h.1)
