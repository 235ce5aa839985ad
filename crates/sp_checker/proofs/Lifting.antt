-- A lifted certificate checks.
use Rattle.std.proofs.Common.{◌≡◌, ℕ, zero, suc, ◌+◌, ◌-◌, ◌<◌, ◌≤◌, ◌||◌, ◌&&◌, Bool, true, false, cond, eqb, ltb, List, [], ◌∷◌, ◌++◌, length, take, drop, Option, Some, None, refl, sym, ap, ◌∙◌, subst, arith, length-append, append_assoc}
use Rattle.std.specs.Prelude.{slice_index}
use Rattle.std.proofs.Math.Path.{fun_ext}
use Rattle.std.proofs.lemmas.Bool.{eqb-true}
use Rattle.std.proofs.lemmas.Bool.Decides.{Decides-ltb, nat_tests}
use Rattle.std.proofs.lemmas.List.{take-append-drop, take-append-le, length-take-le, length-drop}
use Rattle.std.proofs.Math.Seq.{take-append_seam}
use Rattle.sp_rules.specs.declared.fact.Fact.{Fact}
use Rattle.sp_rules.specs.declared.fact.Lack.{Lack}
use Rattle.sp_rules.specs.declared.fact.Step.{Step}
use Rattle.sp_rules.specs.Facts.{is_fact}
use Rattle.sp_rules.proofs.FactLemmas.{is_fact-true}
use Rattle.sp_cert.specs.declared.cert.CertFault.{CertFault}
use Rattle.sp_cert.specs.declared.cert.CertFault.TheVariants.{NotAnAtom, TooDeep, NoClash}
use Rattle.sp_cert.specs.Tree.{Tree, Split, Leaf, Steps}
use Rattle.sp_cert.specs.Checks.{Judge, Facts, next, with_steps, count_steps, count_all, count_nodes, bad_or, bad_step, ends_in_clash, leaf_fault, first_of, unless_deep, fault, first_fault}
use Rattle.sp_rules.specs.Facts.{has_truth, with_fact}
use Rattle.sp_checker.specs.Migration.{same_step, common, follow_or, following, if_true, if_false, front, under, moved, lifted, IsPlain}
use Rattle.sp_checker.proofs.Faults.{leaf_is, split_is, steps_is, leaf_by}

both : (a b : Bool) → (a && b) ≡ true → (a ≡ true) × (b ≡ true)
both true b e = (refl, e)
both false b e = absurd (cc)

abbrev step : Fact → ℕ → ℕ → ℕ → Step
step f r p q = record { fact = f; rule = r; p = p; q = q }

abbrev no_fault : Option CertFault
no_fault = None

both_none : (a b : Option CertFault) → first_of a b ≡ no_fault → (a ≡ no_fault) × (b ≡ no_fault)
both_none None b e = (refl, e)
both_none (Some f) b e = absurd (cc)

none_both : (a b : Option CertFault) → a ≡ no_fault → b ≡ no_fault → first_of a b ≡ no_fault
none_both None b e f = f
none_both (Some x) b e f = absurd (cc)

lacks_none : (o : Option Lack) (n : ℕ) (r : Option CertFault) → bad_or o n r ≡ no_fault → (o ≡ None) × (r ≡ no_fault)
lacks_none None n r e = (refl, e)
lacks_none (Some l) n r e = absurd (cc)

passed_test : (b : Bool) (f : CertFault) (o : Option CertFault) → cond b o (Some f) ≡ no_fault → (b ≡ true) × (o ≡ no_fault)
passed_test true f o e = (refl, e)
passed_test false f o e = absurd (cc)

not_deep : (d node : ℕ) (o : Option CertFault) → unless_deep d node o ≡ no_fault → (d ≤ 20) × (o ≡ no_fault)
not_deep d node o e = by (ltb 20 d) refl e
  where
    by : (b : Bool) → ltb 20 d ≡ b → cond b (Some (TooDeep node)) o ≡ no_fault → (d ≤ 20) × (o ≡ no_fault)
    by true t e = absurd (cc)
    by false t e = (grind (arith, nat_tests), e)

module _ (j : Judge) where
  -- each step follows from the set and the earlier ones
  abbrev pub Follow : Facts → List Step → Type 0
  Follow h [] = Unit {0}
  Follow h (s ∷ ss) = (j.lack h s ≡ None) × Follow (with_fact s.fact h) ss

  -- a tree checks, without its counts
  abbrev pub Checks : ℕ → Facts → Tree → Type 0
  Checks d h (Leaf ss) = (d ≤ 20) × Follow h ss × (ends_in_clash j false ss ≡ true)
  Checks d h (Split a t f) = (d ≤ 20) × (a < length j.atoms) × Checks (d + 1) (if_true j a h) t × Checks (d + 1) (if_false j a h) f
  Checks d h (Steps ss t) = (d ≤ 20) × Follow h ss × Checks d (with_steps ss h) t

  steps_append : (xs ys : List Step) (h : Facts) → with_steps (xs ++ ys) h ≡ with_steps ys (with_steps xs h)
  steps_append [] ys h = refl
  steps_append (x ∷ xs) ys h = steps_append xs ys (with_fact x.fact h)

  follow_behind : (xs ys : List Step) (h : Facts) → Follow h (xs ++ ys) → Follow (with_steps xs h) ys
  follow_behind [] ys h e = e
  follow_behind (x ∷ xs) ys h e = follow_behind xs ys (with_fact x.fact h) e.1

  follow_drop : (k : ℕ) (ss : List Step) (h : Facts) → Follow h ss → Follow (with_steps (take k ss) h) (drop k ss)
  follow_drop k ss h e = follow_behind (take k ss) (drop k ss) h (subst (Follow h) (sym (take-append-drop k ss)) e)

  steps_all : (k : ℕ) (ss : List Step) (h : Facts) → with_steps (drop k ss) (with_steps (take k ss) h) ≡ with_steps ss h
  steps_all k ss h = sym (steps_append (take k ss) (drop k ss) h) ∙ ap (λ l. with_steps l h) (take-append-drop k ss)

  -- one fact more before the steps or behind them
  three : (a b c : Bool) → (a || (b || c)) ≡ (b || (a || c))
  three true true c = refl
  three true false c = refl
  three false b c = refl

  swap_at : (ss : List Step) (e : Fact) (h : Facts) (f : Fact) → with_steps ss (with_fact e h) f ≡ with_fact e (with_steps ss h) f
  swap_at [] e h f = refl
  swap_at (s ∷ ss) e h f =
      ap (λ g. with_steps ss g f) (fun_ext {f = with_fact s.fact (with_fact e h)} {g = with_fact e (with_fact s.fact h)} (λ x. three (is_fact s.fact x) (is_fact e x) (h x)))
      ∙ swap_at ss e (with_fact s.fact h) f

  swap : (ss : List Step) (e : Fact) (h : Facts) → with_steps ss (with_fact e h) ≡ with_fact e (with_steps ss h)
  swap ss e h = fun_ext (swap_at ss e h)

  -- the end of a leaf that loses steps, but not its last
  same_end : (k : ℕ) (c : Bool) (ss : List Step) → k < length ss → ends_in_clash j c (drop k ss) ≡ ends_in_clash j c ss
  same_end zero c ss l = refl
  same_end (suc k) c [] l = absurd (omega arith)
  same_end (suc k) c (s ∷ []) l = absurd (omega arith)
  same_end (suc k) c (s ∷ (t ∷ ss)) l = same_end k c (t ∷ ss) (omega arith)

  pub following_follows : (h : Facts) (ss : List Step) → Follow h (following j h ss)
  following_follows h [] = tt
  following_follows h (s ∷ ss) = by (j.lack h s) refl (following_follows (with_fact s.fact h) ss)
    where
      by : (o : Option Lack) → j.lack h s ≡ o → Follow (with_fact s.fact h) (following j (with_fact s.fact h) ss) → Follow h (follow_or o s (following j (with_fact s.fact h) ss))
      by None e r = (e, r)
      by (Some l) e r = tt

  -- xs begins ys
  pub record Front (xs ys : List Step) : Type 0 where
    pub rest : List Step
    pub is : ys ≡ xs ++ rest

  front_more : (s : Step) (xs ys : List Step) → Front xs ys → Front (s ∷ xs) (s ∷ ys)
  front_more s xs ys f = record { rest = f.rest; is = ap (λ l. s ∷ l) f.is }

  front_none : (ys : List Step) → Front [] ys
  front_none ys = record { rest = ys; is = refl }

  pub front_then : (xs ys zs : List Step) → Front xs ys → Front ys zs → Front xs zs
  front_then xs ys zs f g = record { rest = f.rest ++ g.rest; is = g.is ∙ ap (λ l. l ++ g.rest) f.is ∙ append_assoc xs f.rest g.rest }

  pub following_front : (h : Facts) (ss : List Step) → Front (following j h ss) ss
  following_front h [] = front_none []
  following_front h (s ∷ ss) = by (j.lack h s) (following_front (with_fact s.fact h) ss)
    where
      by : (o : Option Lack) → Front (following j (with_fact s.fact h) ss) ss → Front (follow_or o s (following j (with_fact s.fact h) ss)) (s ∷ ss)
      by None r = front_more s (following j (with_fact s.fact h) ss) ss r
      by (Some l) r = front_none (s ∷ ss)

  same_step_is : (s t : Step) → same_step s t ≡ true → s ≡ t
  same_step_is s t e =
      let a = both (is_fact s.fact t.fact) ((eqb s.rule t.rule) && ((eqb s.p t.p) && (eqb s.q t.q))) e in
      let b = both (eqb s.rule t.rule) ((eqb s.p t.p) && (eqb s.q t.q)) a.1 in
      let c = both (eqb s.p t.p) (eqb s.q t.q) b.1 in
      ap (λ x. step x s.rule s.p s.q) (is_fact-true s.fact t.fact a.0) ∙ ap (λ x. step t.fact x s.p s.q) (eqb-true s.rule t.rule b.0)
      ∙ ap (λ x. step t.fact t.rule x s.q) (eqb-true s.p t.p c.0) ∙ ap (step t.fact t.rule t.p) (eqb-true s.q t.q c.1)

  pub common_fronts : (ss ts : List Step) → Front (common ss ts) ss × Front (common ss ts) ts
  common_fronts [] ts = (front_none [], front_none ts)
  common_fronts (s ∷ ss) [] = (front_none (s ∷ ss), front_none [])
  common_fronts (s ∷ ss) (t ∷ ts) = by (same_step s t) refl (common_fronts ss ts)
    where
      by : (b : Bool) → same_step s t ≡ b → Front (common ss ts) ss × Front (common ss ts) ts → Front (cond b (s ∷ common ss ts) []) (s ∷ ss) × Front (cond b (s ∷ common ss ts) []) (t ∷ ts)
      by true e r = (front_more s (common ss ts) ss r.0, subst (λ x. Front (s ∷ common ss ts) (x ∷ ts)) (same_step_is s t e) (front_more s (common ss ts) ts r.1))
      by false e r = (front_none (s ∷ ss), front_none (t ∷ ts))

  pub front_taken : (xs ys : List Step) → Front xs ys → (take (length xs) ys ≡ xs) × (length xs ≤ length ys)
  front_taken xs ys f = (ap (take (length xs)) f.is ∙ take-append_seam xs f.rest, omega (arith, ap length f.is, length-append xs f.rest))

  -- the counts don't matter to whether it checks
  bad_follow : (h : Facts) (n : ℕ) (ss : List Step) → bad_step j h n ss ≡ no_fault → Follow h ss
  bad_follow h n [] e = tt
  bad_follow h n (s ∷ ss) e = let k = lacks_none (j.lack h s) (next n) (bad_step j (with_fact s.fact h) (next n) ss) e in (k.0, bad_follow (with_fact s.fact h) (next n) ss k.1)

  follow_bad : (h : Facts) (n : ℕ) (ss : List Step) → Follow h ss → bad_step j h n ss ≡ no_fault
  follow_bad h n [] e = refl
  follow_bad h n (s ∷ ss) e = ap (λ o. bad_or o (next n) (bad_step j (with_fact s.fact h) (next n) ss)) e.0 ∙ follow_bad (with_fact s.fact h) (next n) ss e.1

  pub checks_from : (t : Tree) (h : Facts) (d m n : ℕ) → fault j t h d m n ≡ no_fault → Checks d h t
  checks_from (Leaf ss) h d m n e =
      let a = not_deep d (next m) (leaf_fault j h (next m) n ss) e in
      let b = both_none (bad_step j h n ss) (cond (ends_in_clash j false ss) no_fault (Some (NoClash (next m)))) a.1 in
      (a.0, bad_follow h n ss b.0, (passed_test (ends_in_clash j false ss) (NoClash (next m)) no_fault b.1).0)
  checks_from (Split a t f) h d m n e =
      let left = fault j t (if_true j a h) (d + 1) (next m) n in
      let right = fault j f (if_false j a h) (d + 1) (count_nodes (next m) t) (count_all n t) in
      let x = not_deep d (next m) (cond (ltb a (length j.atoms)) (first_of left right) (Some (NotAnAtom (next m)))) e in
      let y = passed_test (ltb a (length j.atoms)) (NotAnAtom (next m)) (first_of left right) x.1 in
      let z = both_none left right y.1 in
      (x.0, (Decides-ltb a (length j.atoms)).0 y.0, checks_from t (if_true j a h) (d + 1) (next m) n z.0, checks_from f (if_false j a h) (d + 1) (count_nodes (next m) t) (count_all n t) z.1)
  checks_from (Steps ss t) h d m n e =
      let rest = fault j t (with_steps ss h) d (next m) (count_steps n ss) in
      let a = not_deep d (next m) (first_of (bad_step j h n ss) rest) e in
      let b = both_none (bad_step j h n ss) rest a.1 in
      (a.0, bad_follow h n ss b.0, checks_from t (with_steps ss h) d (next m) (count_steps n ss) b.1)

  pub checks_to : (t : Tree) (h : Facts) (d m n : ℕ) → Checks d h t → fault j t h d m n ≡ no_fault
  checks_to (Leaf ss) h d m n c = leaf_is j ss h d m n c.0 ∙ leaf_by j h (next m) n ss true (follow_bad h n ss c.1) (sym c.2)
  checks_to (Split a t f) h d m n c =
      split_is j a t f h d m n c.0 c.1 ∙ none_both (fault j t (if_true j a h) (d + 1) (next m) n) (fault j f (if_false j a h) (d + 1) (count_nodes (next m) t) (count_all n t))
      (checks_to t (if_true j a h) (d + 1) (next m) n c.2) (checks_to f (if_false j a h) (d + 1) (count_nodes (next m) t) (count_all n t) c.3)
  checks_to (Steps ss t) h d m n c =
      steps_is j ss t h d m n c.0 ∙ none_both (bad_step j h n ss) (fault j t (with_steps ss h) d (next m) (count_steps n ss)) (follow_bad h n ss c.1)
      (checks_to t (with_steps ss h) d (next m) (count_steps n ss) c.2)

  under_checks : (d : ℕ) (h : Facts) (ss : List Step) (t : Tree) → d ≤ 20 → Follow h ss → Checks d (with_steps ss h) t → Checks d h (under ss t)
  under_checks d h [] t l f c = c
  under_checks d h (s ∷ ss) t l f c = (l, f, c)

  some_end : (ss : List Step) → ends_in_clash j false ss ≡ true → 0 < length ss
  some_end [] e = absurd (cc)
  some_end (s ∷ ss) e = omega arith

  leaf_moved : (ss : List Step) (h : Facts) (d k : ℕ) → k ≤ length (take (length ss - 1) ss) → Checks d h (Leaf ss) → Checks d (with_steps (take k (take (length ss - 1) ss)) h) (Leaf (drop k ss))
  leaf_moved ss h d k l c =
      let n = length ss - 1 in
      let some = some_end ss c.2 in
      let short : length (take n ss) ≡ n = length-take-le n ss (omega arith) in
      let same : take k ss ≡ take k (take n ss) = ap (take k) (sym (take-append-drop n ss)) ∙ take-append-le k (take n ss) (drop n ss) l in
      let fewer : length (drop k ss) ≡ length ss - k = length-drop k ss in
      (c.0, subst (λ x. Follow (with_steps x h) (drop k ss)) same (follow_drop k ss h c.1), same_end k false ss (omega arith) ∙ c.2)

  branch_moved : (F B : List Step) (e : Fact) (h : Facts) (d : ℕ) (t : Tree) → Front F B → Checks d (with_steps (take (length F) B) (with_fact e h)) t → Checks d (with_fact e (with_steps F h)) t
  branch_moved F B e h d t f c = subst (λ g. Checks d g t) (ap (λ l. with_steps l (with_fact e h)) (front_taken F B f).0 ∙ swap F e h) c

  moved_checks : (t : Tree) (h : Facts) (d k : ℕ) → IsPlain t → k ≤ length (front j h t) → Checks d h t → Checks d (with_steps (take k (front j h t)) h) (moved j h t k)
  moved_checks (Leaf ss) h d k p l c = leaf_moved ss h d k l c
  moved_checks (Steps ss t) h d k p l c = absurd p
  moved_checks (Split a t f) h d k p l c =
      let ft = front j (if_true j a h) t in
      let ff = front j (if_false j a h) f in
      let F = front j h (Split a t f) in
      let n = length F in
      let both = common_fronts ft ff in
      let whole = following_front h (common ft ff) in
      let left = front_then F (common ft ff) ft whole both.0 in
      let right = front_then F (common ft ff) ff whole both.1 in
      let x = moved_checks t (if_true j a h) (d + 1) n p.0 (front_taken F ft left).1 c.2 in
      let y = moved_checks f (if_false j a h) (d + 1) n p.1 (front_taken F ff right).1 c.3 in
      under_checks d (with_steps (take k F) h) (drop k F) (Split a (moved j (if_true j a h) t n) (moved j (if_false j a h) f n)) c.0
      (follow_drop k F h (following_follows h (common ft ff)))
      (subst (λ g. Checks d g (Split a (moved j (if_true j a h) t n) (moved j (if_false j a h) f n))) (sym (steps_all k F h))
      (c.0, c.1, branch_moved F ft (has_truth (slice_index j.atoms a) true) h (d + 1) (moved j (if_true j a h) t n) left x, branch_moved F ff (has_truth (slice_index j.atoms a) false) h (d + 1) (moved j (if_false j a h) f n) right y))

pub lifted_checks : (j : Judge) (given : Facts) (t : Tree) → IsPlain t → first_fault j given t ≡ None → first_fault j given (lifted j given t) ≡ None
lifted_checks j given t p e = checks_to j (lifted j given t) given 0 0 0 (moved_checks j t given 0 0 p (omega arith) (checks_from j t given 0 0 0 e))
