-- A step, and a run, has one outcome or meets a conflict; runs compose.
use Rattle.std.proofs.Common.{◌≡◌, refl, sym, ◌∙◌, ap, subst, arith, ℕ, zero, suc, ◌<◌, Bool, true, false, ◌==◌, List, [], ◌∷◌, ◌++◌, Option, Some, None, ◌⊎◌, inl, inr}
use Rattle.std.specs.Prelude.{slice_get, ◌↔◌}
use Rattle.std.specs.List.{All}
use Rattle.std.proofs.lemmas.Bool.Decides.{Decides-eqb}
use Rattle.sp_values.specs.declared.value.Ty.{Ty}
use Rattle.sp_values.specs.declared.value.Value.{Value}
use Rattle.sp_values.specs.declared.place.Invocation.{Invocation}
use Rattle.sp_core.specs.declared.function.Function.{Function}
use Rattle.sp_core.specs.declared.function.Kind.{Kind}
use Rattle.sp_core.specs.declared.function.Kind.TheVariants as kind
use Rattle.sp_core.specs.declared.function.Answer.{Answer}
use Rattle.sp_core.specs.declared.function.Answer.TheVariants as answer
use Rattle.sp_core.specs.Effects.{GuardedChange, GuardedResult, changes_in, effect_trees, results_in}
use Rattle.sp_core.specs.Instances.{Filling, machine_of}
use Rattle.sp_core.specs.Laws.{AreRuns}
use Rattle.sp_core.specs.Machine.{Changes, ChangesByRank, Conflict, ConflictByRank, IsInvocation, IsResult, Machine, MeetsConflict, Outcome, Replies, Run, Stage, Step, StepOf, first_exception, types_of}
use Rattle.sp_core.specs.Parts.{Parts, signature}
use Rattle.sp_core.specs.Ranks.{change_reads, of_rank, rank_count}
use Rattle.sp_core.specs.Typing.{Signature}
use Rattle.sp_core.specs.Values.{Store, look, value_over}
use Rattle.sp_core.specs.WellFormed.{IsKind, IsWellFormed}
use Rattle.sp_core.proofs.Elements.{Contains-nil}
use Rattle.sp_core.proofs.OneResult.{one_result_of}
use Rattle.sp_core.proofs.RankLemmas.{all_of_rank, one_rank}
use Rattle.sp_core.proofs.Unique.{changes_one, changes_some, conflict_or_none, no_changes}
use mathlib.Core.Path.{fun_ext}

module _ (m : Machine) (s : Store) (i : Invocation) (as' : List GuardedChange) where
  -- before each rank is one state
  pub stage_one : (k : ℕ) (u v : Store) → Stage m s i as' k u → Stage m s i as' k v → u ≡ v
  stage_one zero u v h g = h ∙ sym g
  stage_one (suc k) u v h g =
      let same = stage_one k h.0 g.0 h.1 g.1 in
      changes_one m s g.0 i (of_rank as' k) u v (subst (λ x. Changes m s x i (of_rank as' k) u) same h.2) g.2

  -- the changes of a lower rank in a stage
  pub record IsMade (k : ℕ) (u v : Store) : Type 0 where
    pub before : Stage m s i as' k u
    pub made : Changes m s u i (of_rank as' k) v

  pub lower_made : (n k : ℕ) (t : Store) → k < n → Stage m s i as' n t → (u : Store) × (v : Store) × IsMade k u v
  lower_made zero k t l h = absurd (omega (arith, l))
  lower_made (suc n) k t l h = by (k == n) refl (λ less. lower_made n k h.0 less h.1)
    where
      by : (q : Bool) → (k == n) ≡ q → (k < n → (u : Store) × (v : Store) × IsMade k u v) → (u : Store) × (v : Store) × IsMade k u v
      by true q lower = (h.0, t, subst (λ n. IsMade n h.0 t) (sym ((Decides-eqb k n).0 q)) (record { before = h.1; made = h.2 }))
      by false q lower = lower (grind (arith, l, q))

  -- the states before some ranks are there, or a rank among them has a conflict
  abbrev Stopped : ℕ → Type 0
  Stopped n = (k : ℕ) × (u : Store) × (k < n) × Stage m s i as' k u × Conflict m s u i (of_rank as' k)

  stages : (n : ℕ) → ((u : Store) × Stage m s i as' n u) ⊎ Stopped n
  stages zero = inl (s, refl)
  stages (suc n) = by (stages n)
    where
      next : (u : Store) → Stage m s i as' n u → ((t : Store) × Stage m s i as' (suc n) t) ⊎ Stopped (suc n)
      next u h = elim (conflict_or_none m s u i (of_rank as' n)) [
        | inl c ↦ inr (n, u, omega arith, h, c)
        | inr consistent ↦ let t = changes_some m s u i (of_rank as' n) consistent in inl (t.0, (u, h, t.1))
      ]

      by : ((u : Store) × Stage m s i as' n u) ⊎ Stopped n → ((t : Store) × Stage m s i as' (suc n) t) ⊎ Stopped (suc n)
      by (inl h) = next h.0 h.1
      by (inr (k, u, l, h, c)) = inr (k, u, omega (arith, l), h, c)

  pub changed_or_conflict : ((t : Store) × ChangesByRank m s i as' t) ⊎ ConflictByRank m s i as'
  changed_or_conflict = by (stages (rank_count as'))
    where
      by : ((t : Store) × Stage m s i as' (rank_count as') t) ⊎ Stopped (rank_count as') → ((t : Store) × ChangesByRank m s i as' t) ⊎ ConflictByRank m s i as'
      by (inl h) = inl h
      by (inr (k, u, l, h, c)) = inr (k, u, record { rank = l; before = h; conflict = c })

  pub not_both : (t : Store) → ChangesByRank m s i as' t → ConflictByRank m s i as' → ⊥
  not_both t h (k, u, c) =
      let made = lower_made (rank_count as') k t c.rank h in
      let same = stage_one k u made.0 c.before made.2.before in
      no_changes m s made.0 i (of_rank as' k) made.1 (subst (λ x. Conflict m s x i (of_rank as' k)) same c.conflict) made.2.made

-- Changes that read no new value

module _ (m : Machine) (s : Store) (i : Invocation) where
  nothing_made : (t : Store) → t ≡ s → Changes m s s i [] t
  nothing_made t e = record { named = λ a cs c. absurd (Contains-nil a c.of); others = λ g v n. ap (λ x. x g v) e }

  made_nothing : (t : Store) → Changes m s s i [] t → t ≡ s
  made_nothing t h = fun_ext (λ g. fun_ext (λ v. h.others g v (λ a cs c. absurd (Contains-nil a c.of))))

  -- they are all made over the old state alone
  pub one_rank_made : (as' : List GuardedChange) → All (λ a. change_reads a ≡ []) as' → (t : Store) → ChangesByRank m s i as' t ↔ Changes m s s i as' t
  one_rank_made [] plain t = (nothing_made t, made_nothing t)
  one_rank_made (a ∷ as') plain t = (to, from)
    where
      bs : List GuardedChange
      bs = a ∷ as'

      count : rank_count (a ∷ as') ≡ 1
      count = one_rank (a ∷ as') plain a as' refl

      own : of_rank (a ∷ as') 0 ≡ a ∷ as'
      own = all_of_rank (a ∷ as') plain

      to : ChangesByRank m s i (a ∷ as') t → Changes m s s i (a ∷ as') t
      to h = by (subst (λ n. Stage m s i (a ∷ as') n t) count h)
        where
          by : (v : Store) × (v ≡ s) × Changes m s v i (of_rank (a ∷ as') 0) t → Changes m s s i (a ∷ as') t
          by (v, e, made) = subst (λ x. Changes m s x i (a ∷ as') t) e (subst (λ xs. Changes m s v i xs t) own made)

      from : Changes m s s i (a ∷ as') t → ChangesByRank m s i (a ∷ as') t
      from made = subst (λ n. Stage m s i (a ∷ as') n t) (sym count) (s, refl, subst (λ xs. Changes m s s i xs t) (sym own) made)

-- Answers

-- two results whose guards are true are one
result_one : (m : Machine) (s t : Store) (i : Invocation) (rs : List GuardedResult) (v u : Value) → IsResult m s t i rs v → IsResult m s t i rs u → v ≡ u
result_one m s t i rs v u h k =
    let same : k.0 ≡ h.0 = h.2.only k.0 k.1 k.2.there k.2.held in
    let there : Some k.1 ≡ Some h.1 = sym k.2.there ∙ ap (λ n. slice_get rs n) same ∙ h.2.there in
    let one : k.1 ≡ h.1 = cc in
    h.2.value ∙ ap (λ (r : GuardedResult). value_over m.world m.functions s t i.args r.value) (sym one) ∙ sym k.2.value

pub replies_one : (m : Machine) (s t : Store) (i : Invocation) (k : Kind) (a b : Answer) → Replies m s t i k a → Replies m s t i k b → a ≡ b
replies_one m s t i (kind.Primitive u e) a b h k = h ∙ sym k
replies_one m s t i (kind.Derived u e) a b h k = h ∙ sym k
replies_one m s t i (kind.Operation es) a b h k = h ∙ sym k
replies_one m s t i (kind.Both u es) a b h k = h.2 ∙ ap answer.Value (result_one m s t i (results_in (effect_trees (kind.Both u es))) h.0 k.0 h.1 k.1) ∙ sym k.2

pub replies_some : (sg : Signature) (xs : List Ty) (m : Machine) (s t : Store) (i : Invocation) (k : Kind) → IsKind sg xs i.fun k → (a : Answer) × Replies m s t i k a
replies_some sg xs m s t i (kind.Primitive u e) h = (answer.Value (look m.world m.functions s i.fun i.args), refl)
replies_some sg xs m s t i (kind.Derived u e) h = (answer.Value (look m.world m.functions s i.fun i.args), refl)
replies_some sg xs m s t i (kind.Operation es) h = (answer.Done, refl)
replies_some sg xs m s t i (kind.Both u es) h = let r = one_result_of (effect_trees (kind.Both u es)) h.one_result m s t i in (answer.Value r.0, (r.0, r.1, refl))

-- Steps

outcome_one : (m : Machine) (s : Store) (i : Invocation) (f : Function) (o : Option ℕ) (a b : Answer) (t u : Store) → Outcome m s i f o a t → Outcome m s i f o b u → (a ≡ b) × (t ≡ u)
outcome_one m s i f (Some n) a b t u h k = (h.0 ∙ sym k.0, h.1 ∙ sym k.1)
outcome_one m s i f None a b t u h k =
    let all = changes_in (effect_trees f.kind) in
    let same = stage_one m s i all (rank_count all) t u h.0 k.0 in
    (replies_one m s u i f.kind a b (subst (λ x. Replies m s x i f.kind a) same h.1) k.1, same)

pub step_of_one : (m : Machine) (s : Store) (i : Invocation) (f : Function) (a b : Answer) (t u : Store) → StepOf m s i a t f → StepOf m s i b u f → (a ≡ b) × (t ≡ u)
step_of_one m s i f a b t u h k = outcome_one m s i f (first_exception m s i f) a b t u h.outcome k.outcome

-- from a state there is a step, or the invocation meets a conflict
pub step_or_conflict : (p : Parts) (i : Filling) → IsWellFormed p → (s : Store) (inv : Invocation) → IsInvocation (machine_of p i) inv → ((a : Answer) × (t : Store) × Step (machine_of p i) s inv a t) ⊎ MeetsConflict (machine_of p i) s inv
step_or_conflict p i wf s inv (f, call) = by (first_exception m s inv f) refl
  where
    m : Machine
    m = machine_of p i

    by : (o : Option ℕ) → first_exception (machine_of p i) s inv f ≡ o → ((a : Answer) × (t : Store) × Step (machine_of p i) s inv a t) ⊎ MeetsConflict (machine_of p i) s inv
    by (Some n) e = inl (answer.Exception n, s, (f, record { function = call.function; outcome = subst (λ o. Outcome (machine_of p i) s inv f o (answer.Exception n) s) (sym e) (refl, refl) }))
    by None e = elim (changed_or_conflict (machine_of p i) s inv (changes_in (effect_trees f.kind))) [
      | inl t ↦
          let a = replies_some (signature p) (types_of f.formals) (machine_of p i) s t.0 inv f.kind (wf.functions inv.fun f call.function).kind in
          inl (a.0, t.0, (f, record { function = call.function; outcome = subst (λ o. Outcome (machine_of p i) s inv f o a.0 t.0) (sym e) (t.1, a.1) }))
      | inr c ↦ inr (f, record { function = call.function; plain = e; conflict = c })
    ]

-- and not both
pub no_step : (m : Machine) (s : Store) (i : Invocation) (a : Answer) (t : Store) → Step m s i a t → MeetsConflict m s i → ⊥
no_step m s i a t (f, h) (g, c) =
    let there : Some f ≡ Some g = sym h.function ∙ c.function in
    let same : f ≡ g = cc in
    let own = subst (λ (x : Function). Outcome m s i x (first_exception m s i x) a t) same h.outcome in
    let plain = subst (λ o. Outcome m s i g o a t) c.plain own in
    not_both m s i (changes_in (effect_trees g.kind)) t plain.0 c.conflict

-- a step's answer and state are determined
pub step_one : (m : Machine) (s : Store) (i : Invocation) (a b : Answer) (t u : Store) → Step m s i a t → Step m s i b u → (a ≡ b) × (t ≡ u)
step_one m s i a b t u h k =
    let there : Some k.0 ≡ Some h.0 = sym k.1.function ∙ h.1.function in
    let same : k.0 ≡ h.0 = cc in
    step_of_one m s i h.0 a b t u h.1 (subst (StepOf m s i b u) same k.1)

-- a run's answers and state are determined
pub run_one : (m : Machine) (is' : List Invocation) (s : Store) (as' bs : List Answer) (t u : Store) → Run m s is' as' t → Run m s is' bs u → (as' ≡ bs) × (t ≡ u)
run_one m [] s [] [] t u h k = (refl, h ∙ sym k)
run_one m [] s [] (b ∷ bs) t u h k = absurd k
run_one m [] s (a ∷ as') bs t u h k = absurd h
run_one m (i ∷ is') s [] bs t u h k = absurd h
run_one m (i ∷ is') s (a ∷ as') [] t u h k = absurd k
run_one m (i ∷ is') s (a ∷ as') (b ∷ bs) t u h k =
    let first = step_one m s i a b h.0 k.0 h.1 k.1 in
    let rest = run_one m is' h.0 as' bs t u h.2 (subst (λ x. Run m x is' bs u) (sym first.1) k.2) in
    ((λ j. first.0 j ∷ rest.0 j), rest.1)

-- a run of one list and then a run of another is a run of both
pub run_append : (m : Machine) (is' js : List Invocation) (s t u : Store) (as' bs : List Answer) → Run m s is' as' t → Run m t js bs u → Run m s (is' ++ js) (as' ++ bs) u
run_append m [] js s t u [] bs h k = subst (λ x. Run m x js bs u) h k
run_append m [] js s t u (a ∷ as') bs h k = absurd h
run_append m (i ∷ is') js s t u [] bs h k = absurd h
run_append m (i ∷ is') js s t u (a ∷ as') bs h k = (h.0, h.1, run_append m is' js h.0 t u as' bs h.2 k)

-- a run of two lists is a run of the one and then a run of the other
pub run_split : (m : Machine) (is' js : List Invocation) (s u : Store) (cs : List Answer) → Run m s (is' ++ js) cs u → (as' : List Answer) × (bs : List Answer) × (t : Store) × AreRuns m s is' js cs u as' bs t
run_split m [] js s u cs h = ([], cs, s, record { answers = refl; first = refl; second = h })
run_split m (i ∷ is') js s u [] h = absurd h
run_split m (i ∷ is') js s u (c ∷ cs) h =
    let r = run_split m is' js h.0 u cs h.2 in
    (c ∷ r.0, r.1, r.2, record { answers = ap (λ xs. c ∷ xs) r.3.answers; first = (h.0, h.1, r.3.first); second = r.3.second })
