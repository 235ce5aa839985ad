-- What makes the hypotheses TRUE and the goal FALSE is an open branch.
use Rattle.std.proofs.Common.{◌≡◌, refl, sym, ap, ◌∙◌, subst, arith, ℕ, ◌<◌, ◌≤◌, Bool, true, false, List, [], ◌∷◌, ◌++◌, length, map, Some, ⊎_elim}
use Rattle.std.specs.Prelude.{slice_get, slice_index}
use Rattle.std.proofs.lemmas.Option.{get_or_from_slice_get}
use Rattle.sp_values.specs.declared.value.Value.{Value}
use Rattle.sp_values.specs.declared.value.Value.TheVariants as value
use Rattle.sp_core.specs.Parts.{Parts, signature}
use Rattle.sp_core.specs.Tree.{Tree, Const}
use Rattle.sp_core.specs.Values.{is_true}
use Rattle.sp_core.specs.WellFormed.{IsWellFormed}
use Rattle.sp_sequent.specs.Numbers.{parts}
use Rattle.sp_rules.specs.Terms.{Terms}
use Rattle.sp_rules.specs.declared.fact.Fact.{Fact}
use Rattle.sp_sequent.specs.Subterms.{ends, number, truths}
use Rattle.std.specs.List.{flat_map}
use Rattle.sp_sequent.proofs.Numbering.{Has, with_all_grows}
use Rattle.sp_rules.specs.Facts.{has_truth, is_fact, is_one_of}
use Rattle.sp_rules.specs.Questions.{given_facts}
use Rattle.sp_rules.proofs.FactLemmas.{is_fact-true, is_one_of-cons, is_one_of-none, one_holds}
use Rattle.sp_readings.specs.Readings.{Holds, IsReading, IsTruth}
use Rattle.sp_readings.proofs.Open.{readings_are_open, truth_holds}
use Rattle.sp_sequent.specs.Claims.{Claim, IsTypedClaim, question_of, terms_in}
use Rattle.sp_claims.specs.Laws.{HasNoOpenBranch, IsOpenIn, atom_values}
use Rattle.sp_claims.specs.Models.{AreTrue, ClaimHolds, IsAgainst, IsBoolean, IsMoment, Moment, atoms_in, is_true_in, reading_of, terms_over, worth, worth_at}
use Rattle.sp_claims.proofs.Atoms.{atom_at, atom_typed}
use Rattle.sp_claims.proofs.Lists.{Each, each_at, each_of}
use Rattle.sp_claims.proofs.Closed.{parts_within}
use Rattle.sp_claims.proofs.Present.{each_first, each_last, each_present}
use Rattle.sp_claims.proofs.Typed.{IsTypedIn, few_typed, terms_typed, worth_truth}
use Rattle.sp_claims.proofs.Worth.{is_reading, worth_there}

truth_is : (x : Value) (b : Bool) → IsTruth x → is_true x ≡ b → x ≡ value.Truth b
truth_is x b t e = t.1 ∙ ap value.Truth (sym (ap is_true t.1) ∙ e)

module _ (p : Parts) (c : Claim) (wf : IsWellFormed p) (n : IsTypedClaim p c) (m : Moment) (h : IsMoment p c.types m) where
  abbrev ts : List Tree
  ts = terms_in c

  abbrev all : Terms
  all = terms_over p c.types ts

  abbrev v : ℕ → Value
  v = worth_at p m ts

  typed : Each (IsTypedIn (signature p) c.types) ts
  typed = terms_typed p c n

  few : (i : ℕ) (e : Tree) → slice_get ts i ≡ Some e → length (parts e) ≤ 8
  few i e q = let t = each_at (IsTypedIn (signature p) c.types) ts typed i e q in few_typed p wf c.types e t.0 t.1

  reads : IsReading (reading_of p m ts) all v
  reads = let g = with_all_grows truths (flat_map ends (c.hypotheses ++ c.goal ∷ [])) in is_reading p c.types m ts (parts_within (c.hypotheses ++ c.goal ∷ [])) few wf h typed g.0 g.1

  carried : (f g : Fact) → f ≡ g → Holds p.lattice v f → Holds p.lattice v g
  carried f g e w = subst (Holds p.lattice v) e w

  -- a subterm with this truth value
  one_fact : (e : Tree) (b : Bool) → Has ts e → IsBoolean p c.types e → is_true_in p m e ≡ b → Holds p.lattice v (has_truth (number ts e) b)
  one_fact e b there t q = truth_holds (reading_of p m ts) all v reads (number ts e) b (worth_there p c.types m ts e there ∙ truth_is (worth p m e) b (worth_truth p wf c.types m h e t) q)

  -- the given facts, and those of hypotheses alone
  abbrev facts : List Tree → List Fact
  facts hs = given_facts (map (number ts) hs) (number ts c.goal)

  facts_hold : (hs : List Tree) → Each (Has ts) hs → Each (IsBoolean p c.types) hs → Each (λ e. is_true_in p m e ≡ true) hs → Has ts c.goal → is_true_in p m c.goal ≡ false
      → (f : Fact) → is_one_of (facts hs) f ≡ true → Holds p.lattice v f
  facts_hold [] there t q goal_there q' f e =
      ⊎_elim (λ (s : is_fact (has_truth (number ts c.goal) false) f ≡ true). carried (has_truth (number ts c.goal) false) f (is_fact-true (has_truth (number ts c.goal) false) f s) (one_fact c.goal false goal_there n.goal q'))
      (λ (s : is_one_of [] f ≡ true). absurd (cc (sym (is_one_of-none f) ∙ s))) (one_holds _ _ (sym (is_one_of-cons (has_truth (number ts c.goal) false) [] f) ∙ e))
  facts_hold (e' ∷ hs) there t q goal_there q' f e =
      ⊎_elim (λ (s : is_fact (has_truth (number ts e') true) f ≡ true). carried (has_truth (number ts e') true) f (is_fact-true (has_truth (number ts e') true) f s) (one_fact e' true there.0 t.0 q.0))
      (λ (s : is_one_of (facts hs) f ≡ true). facts_hold hs there.1 t.1 q.1 goal_there q' f s) (one_holds _ _ (sym (is_one_of-cons (has_truth (number ts e') true) (facts hs) f) ∙ e))

  atom_truth : (k : ℕ) → k < length (atoms_in p c.types ts) → IsTruth (v (slice_index (atoms_in p c.types ts) k))
  atom_truth k l =
      let a = atom_at (signature p) c.types ts 0 k l in
      let t = each_at (IsTypedIn (signature p) c.types) ts typed a.place a.tree a.there in
      let here : slice_index (atoms_in p c.types ts) k ≡ a.place = omega (arith, a.number) in
      subst IsTruth (sym (ap v here ∙ ap (worth p m) (get_or_from_slice_get ts a.place a.tree (Const (value.Truth false)) a.there)))
      (worth_truth p wf c.types m h a.tree (atom_typed (signature p) c.types a.tree t.0 a.atom t.1))

  open_at : AreTrue p m c.hypotheses → is_true_in p m c.goal ≡ false → IsOpenIn (question_of p c) (atom_values p c m)
  open_at q q' =
      let there = each_present (c.hypotheses ++ c.goal ∷ []) in
      readings_are_open (reading_of p m ts) all v reads (is_one_of (facts c.hypotheses))
      (facts_hold c.hypotheses (each_first (Has ts) c.hypotheses (c.goal ∷ []) there) (each_of (IsBoolean p c.types) c.hypotheses n.hypotheses) (each_of (λ e. is_true_in p m e ≡ true) c.hypotheses q) (each_last (Has ts) c.hypotheses (c.goal ∷ []) there).0 q') (atoms_in p c.types ts) atom_truth

pub counterexamples_are_open : (p : Parts) (c : Claim) → IsWellFormed p → IsTypedClaim p c → (m : Moment) → IsAgainst p c m → IsOpenIn (question_of p c) (atom_values p c m)
counterexamples_are_open p c wf n m a = open_at p c wf n m a.moment a.hypotheses a.goal

pub closed_claims_hold : (p : Parts) (c : Claim) → IsWellFormed p → IsTypedClaim p c → HasNoOpenBranch (question_of p c) → ClaimHolds p c
closed_claims_hold p c wf n none i inst s t old new x values held = by (is_true_in p m c.goal) refl
  where
    m : Moment
    m = record { instance = i; old = s; new = t; values = x }

    moment : IsMoment p c.types m
    moment = record { instance = inst; old = old; new = new; values = values }

    by : (b : Bool) → is_true_in p m c.goal ≡ b → b ≡ true
    by true e = refl
    by false e = absurd (none (atom_values p c m) (open_at p c wf n m moment held e))
