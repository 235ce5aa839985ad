use Rattle.std.proofs.Common.{◌≡◌, ◌<◌, ◌++◌, ◌∷◌, [], ℕ, Bool, true, List, length, take, sym, ap, ◌∙◌, subst, arith}
use Rattle.std.specs.Prelude.{All, IsTrue, slice_index}
use Rattle.sp_rules.specs.Branches.{HasClash}
use Rattle.sp_rules.specs.Facts.{has_truth, is_one_of}
use Rattle.sp_rules.specs.Laws.{AreIn}
use Rattle.sp_rules.specs.Questions.{IsQuestion, Question, is_truth_below}
use Rattle.sp_rules.specs.Terms.{Terms, count}
use Rattle.sp_rules.specs.declared.fact.Fact.{Fact}
use Rattle.sp_rules.specs.declared.fact.Step.{Step}
use Rattle.sp_rules.proofs.Steps.{follows_more}
use Rattle.sp_saturate.specs.Looking.{HasClashOn, IsCalmOn}
use Rattle.sp_saturate.specs.Situations.{AreKept, IsLevel}
use Rattle.sp_saturate.specs.Steps.{AreFound, given_on, on}
use Rattle.sp_saturate.specs.Trail.{Extends, Found, with_given}
use Rattle.sp_saturate.proofs.Levels.{follows_on, given_only_more, kept_again, kept_more, level_all, truth_below, truth_in_range, truths_more}
use Rattle.sp_saturate.proofs.facts.Facts.refute.Goals as goal

-- where a closed trail has no clash, none follows
none_follows : (t : Found) (facts : List Fact) → IsLevel t.terms t.steps facts → IsCalmOn t → HasClash t.terms (is_one_of facts) → ⊥
none_follows t facts level calm clash = absurd (cc (calm clash.0 (level_all t.terms t.steps facts level clash.0 clash.2), clash.1))

-- a clash on a trail follows
one_follows : (t : Found) (facts : List Fact) → AreFound t.terms t.steps → AreIn (given_on t.steps) (is_one_of facts) → HasClashOn t → HasClash t.terms (is_one_of facts)
one_follows t facts found only h = (h.0, h.2, follows_more t.terms (given_on t.steps) (is_one_of facts) only h.0 (follows_on t.terms t.steps found h.0 h.1))

truth_of : (q : Question) → IsQuestion q → (atom : ℕ) (truth : Bool) (term : ℕ) (fact : Fact) → atom < length q.atoms → term ≡ slice_index q.atoms atom → fact ≡ has_truth term truth → is_truth_below (count q.terms) fact ≡ true
truth_of q is atom truth term fact l e f = ap (is_truth_below (count q.terms)) f ∙ truth_below (count q.terms) term truth (subst (λ n. n < count q.terms) (sym e) (is.atoms atom 0 l))

-- a trail on which a fact was followed up
abbrev Follows : Question → List Step → Fact → Found → Type 0
Follows q steps fact b = Extends (record { terms = q.terms; steps = with_given steps fact }) b

-- what is given and assumed, and one more fact
abbrev all_facts : Question → List Fact → Fact → List Fact
all_facts q assumed fact = q.given ++ (assumed ++ fact ∷ [])

-- the fact is the truth value of an atom
same_facts : (q : Question) (assumed : List Fact) (atom : ℕ) (truth : Bool) (term : ℕ) (fact : Fact) → term ≡ slice_index q.atoms atom → fact ≡ has_truth term truth
    → all_facts q assumed fact ≡ all_facts q assumed (has_truth (slice_index q.atoms atom) truth)
same_facts q assumed atom truth term fact e f = ap (all_facts q assumed) (f ∙ ap (λ n. has_truth n truth) e)

-- what was followed up is taken back
taken_back : (q : Question) (steps : List Step) (assumed : List Fact) (starts : List ℕ) → AreKept q steps assumed starts → (fact : Fact) (b : Found) → Follows q steps fact b
    → (t : Found) → t ≡ record { terms = b.terms; steps = take (length steps) b.steps } → (facts : List Fact) → facts ≡ take (length starts) (assumed ++ fact ∷ [])
    → AreKept (record { terms = t.terms; given = q.given; atoms = q.atoms }) t.steps facts starts
taken_back q steps assumed starts kept fact b x t e facts f =
    subst (λ (u : Found). AreKept (record { terms = u.terms; given = q.given; atoms = q.atoms }) u.steps facts starts) (sym e)
    (subst (λ (us : Terms). AreKept (record { terms = us; given = q.given; atoms = q.atoms }) (take (length steps) b.steps) facts starts) (sym x.terms_same)
    (subst (λ (fs : List Fact). AreKept q (take (length steps) b.steps) fs starts) (sym f) (kept_again q steps assumed starts kept fact b x)))

pub give-requires : goal.give-requires
give-requires c =
    let a = c.self.inside in
    let q : Question = record { terms = a.trail.terms; given = a.given.now; atoms = a.atoms.now } in
    let fact = c.truth_fact-fact.result in
    let within : c.args.atom < length a.atoms.now = rw (← c.self.view_is) at c.requires.atom in
    let truth : is_truth_below (count q.terms) fact ≡ true = truth_of q c.self.invariant.0.question c.args.atom c.args.truth c.atom_at.result fact within c.atom_at.ensures c.truth_fact-fact.ensures in
    truth_in_range a.trail.terms c.self.invariant.0.question.small.two fact truth

pub invariant_of-self : goal.invariant_of-self
invariant_of-self c =
    let a = c.self.inside in
    let b = c.close_to_clash-is_clashing.new.trail in
    let q : Question = record { terms = a.trail.terms; given = a.given.now; atoms = a.atoms.now } in
    let fact = c.truth_fact-fact.result in
    let within : c.args.atom < length a.atoms.now = rw (← c.self.view_is) at c.requires.atom in
    let x : Follows q a.trail.steps fact b = subst (λ (t : Found). Extends t b) c.give.ensures c.close_to_clash-is_clashing.ensures.extends in
    let truth : is_truth_below (count q.terms) fact ≡ true = truth_of q c.self.invariant.0.question c.args.atom c.args.truth c.atom_at.result fact within c.atom_at.ensures c.truth_fact-fact.ensures in
    let fewer : length a.assumed.items < 20 = rw (← c.self.view_is) at c.requires.few in
    let calm : IsCalmOn b = c.close_to_clash-is_clashing.ensures.calm c.if-not-is_clashing.true in
    let new : Question = record { terms = b.terms; given = a.given.now; atoms = a.atoms.now } in
    let kept : AreKept new b.steps (a.assumed.items ++ fact ∷ []) (a.starts.items ++ length a.trail.steps ∷ []) =
    kept_more q a.trail.steps a.assumed.items a.starts.items c.self.invariant.0 fact truth b x.terms_same x (c.close_to_clash-is_clashing.ensures.closed calm) fewer in (
      subst (λ z. AreKept new b.steps z c.push_start.new.starts.items) (sym c.push_fact.ensures.items)
          (subst (λ z. AreKept new b.steps (a.assumed.items ++ fact ∷ []) z) (sym (c.push_start.ensures.items ∙ ap (λ n. a.starts.items ++ n ∷ []) c.count-before.ensures)) kept),
      omega (arith, c.self.invariant.1, c.push_fact.ensures.capacity),
      omega (arith, c.self.invariant.2, c.push_start.ensures.capacity),
    )

pub returns-then-not-is_clashing-clause-clash : goal.returns-then-not-is_clashing-clause-clash
returns-then-not-is_clashing-clause-clash c =
    let a = c.self.inside in
    let b = c.close_to_clash-is_clashing.new.trail in
    let q : Question = record { terms = a.trail.terms; given = a.given.now; atoms = a.atoms.now } in
    let fact = c.truth_fact-fact.result in
    let within : c.args.atom < length a.atoms.now = rw (← c.self.view_is) at c.requires.atom in
    let x : Follows q a.trail.steps fact b = subst (λ (t : Found). Extends t b) c.give.ensures c.close_to_clash-is_clashing.ensures.extends in
    let truth : is_truth_below (count q.terms) fact ≡ true = truth_of q c.self.invariant.0.question c.args.atom c.args.truth c.atom_at.result fact within c.atom_at.ensures c.truth_fact-fact.ensures in
    let fewer : length a.assumed.items < 20 = rw (← c.self.view_is) at c.requires.few in
    let calm : IsCalmOn b = c.close_to_clash-is_clashing.ensures.calm c.if-not-is_clashing.true in
    let new : Question = record { terms = b.terms; given = a.given.now; atoms = a.atoms.now } in
    let kept : AreKept new b.steps (a.assumed.items ++ fact ∷ []) (a.starts.items ++ length a.trail.steps ∷ []) =
    kept_more q a.trail.steps a.assumed.items a.starts.items c.self.invariant.0 fact truth b x.terms_same x (c.close_to_clash-is_clashing.ensures.closed calm) fewer in
    let same = same_facts q a.assumed.items c.args.atom c.args.truth c.atom_at.result fact c.atom_at.ensures c.truth_fact-fact.ensures in
    rw (← c.self.view_is) (subst (λ (us : Terms). HasClash us (is_one_of (all_facts q a.assumed.items (has_truth (slice_index q.atoms c.args.atom) c.args.truth))) → ⊥) x.terms_same
    (subst (λ (fs : List Fact). HasClash b.terms (is_one_of fs) → ⊥) same (none_follows b (all_facts q a.assumed.items fact) kept.whole calm)))

pub steps_to_clash-steps-requires-clause-assumed : goal.steps_to_clash-steps-requires-clause-assumed
steps_to_clash-steps-requires-clause-assumed c =
    let a = c.self.inside in
    let b = c.close_to_clash-is_clashing.new.trail in
    let q : Question = record { terms = a.trail.terms; given = a.given.now; atoms = a.atoms.now } in
    let fact = c.truth_fact-fact.result in
    let within : c.args.atom < length a.atoms.now = rw (← c.self.view_is) at c.requires.atom in
    let x : Follows q a.trail.steps fact b = subst (λ (t : Found). Extends t b) c.give.ensures c.close_to_clash-is_clashing.ensures.extends in
    let truth : is_truth_below (count q.terms) fact ≡ true = truth_of q c.self.invariant.0.question c.args.atom c.args.truth c.atom_at.result fact within c.atom_at.ensures c.truth_fact-fact.ensures in
    subst (λ (us : Terms). All (λ f. IsTrue (is_truth_below (count us) f)) c.deref.result.now) (sym x.terms_same)
    (subst (λ (fs : List Fact). All (λ f. IsTrue (is_truth_below (count q.terms) f)) fs) (sym (c.deref.ensures.value ∙ c.push_fact.ensures.items))
    (truths_more q a.trail.steps a.assumed.items a.starts.items c.self.invariant.0 fact truth))

pub steps_to_clash-steps-requires-clause-from : goal.steps_to_clash-steps-requires-clause-from
steps_to_clash-steps-requires-clause-from c =
    let a = c.self.inside in
    let b = c.close_to_clash-is_clashing.new.trail in
    let q : Question = record { terms = a.trail.terms; given = a.given.now; atoms = a.atoms.now } in
    let fact = c.truth_fact-fact.result in
    let x : Follows q a.trail.steps fact b = subst (λ (t : Found). Extends t b) c.give.ensures c.close_to_clash-is_clashing.ensures.extends in
    subst (λ (fs : List Fact). AreIn (given_on b.steps) (is_one_of (q.given ++ fs))) (sym (c.deref.ensures.value ∙ c.push_fact.ensures.items))
    (given_only_more q a.trail.steps a.assumed.items a.starts.items c.self.invariant.0 fact b x)

pub returns-clause-clash : goal.returns-clause-clash
returns-clause-clash c =
    let a = c.self.inside in
    let b = c.close_to_clash-is_clashing.new.trail in
    let q : Question = record { terms = a.trail.terms; given = a.given.now; atoms = a.atoms.now } in
    let fact = c.truth_fact-fact.result in
    let x : Follows q a.trail.steps fact b = subst (λ (t : Found). Extends t b) c.give.ensures c.close_to_clash-is_clashing.ensures.extends in
    let same = same_facts q a.assumed.items c.args.atom c.args.truth c.atom_at.result fact c.atom_at.ensures c.truth_fact-fact.ensures in
    let clash : HasClashOn b = c.close_to_clash-is_clashing.ensures.clash c.if-not-is_clashing.false in
    rw (← c.self.view_is) (subst (λ (us : Terms). HasClash us (is_one_of (all_facts q a.assumed.items (has_truth (slice_index q.atoms c.args.atom) c.args.truth)))) x.terms_same
    (subst (λ (fs : List Fact). HasClash b.terms (is_one_of fs)) same (one_follows b (all_facts q a.assumed.items fact) c.tell_found.ensures (given_only_more q a.trail.steps a.assumed.items a.starts.items c.self.invariant.0 fact b x) clash)))

pub invariant_of-self-in_err-steps : goal.invariant_of-self-in_err-steps
invariant_of-self-in_err-steps c =
    let a = c.self.inside in
    let b = c.close_to_clash-is_clashing.new.trail in
    let q : Question = record { terms = a.trail.terms; given = a.given.now; atoms = a.atoms.now } in
    let fact = c.truth_fact-fact.result in
    let x : Follows q a.trail.steps fact b = subst (λ (t : Found). Extends t b) c.give.ensures c.close_to_clash-is_clashing.ensures.extends in
    let n : c.len.result ≡ length a.starts.items = omega (arith, c.len.ensures) in
    let items : c.truncate.new.self.items ≡ take (length a.starts.items) (a.assumed.items ++ fact ∷ []) = c.truncate.ensures.items ∙ ap (λ m. take m c.push_fact.new.facts.items) n ∙ ap (take (length a.starts.items)) c.push_fact.ensures.items in
    let back : c.release.new.self ≡ record { terms = b.terms; steps = take (length a.trail.steps) b.steps } = c.release.ensures ∙ ap (λ m. let t : Found = record { terms = b.terms; steps = take m b.steps } in t) c.count-before.ensures in (
      taken_back q a.trail.steps a.assumed.items a.starts.items c.self.invariant.0 fact b x c.release.new.self back c.truncate.new.self.items items,
      omega (arith, c.self.invariant.1, c.push_fact.ensures.capacity, c.truncate.ensures.capacity),
      c.self.invariant.2,
    )

pub invariant_of-self-2 : goal.invariant_of-self-2
invariant_of-self-2 c =
    let a = c.self.inside in
    let b = c.close_to_clash-is_clashing.new.trail in
    let q : Question = record { terms = a.trail.terms; given = a.given.now; atoms = a.atoms.now } in
    let fact = c.truth_fact-fact.result in
    let x : Follows q a.trail.steps fact b = subst (λ (t : Found). Extends t b) c.give.ensures c.close_to_clash-is_clashing.ensures.extends in
    let n : c.len.result ≡ length a.starts.items = omega (arith, c.len.ensures) in
    let items : c.truncate.new.self.items ≡ take (length a.starts.items) (a.assumed.items ++ fact ∷ []) = c.truncate.ensures.items ∙ ap (λ m. take m c.push_fact.new.facts.items) n ∙ ap (take (length a.starts.items)) c.push_fact.ensures.items in
    let back : c.release.new.self ≡ record { terms = b.terms; steps = take (length a.trail.steps) b.steps } = c.release.ensures ∙ ap (λ m. let t : Found = record { terms = b.terms; steps = take m b.steps } in t) c.count-before.ensures in (
      taken_back q a.trail.steps a.assumed.items a.starts.items c.self.invariant.0 fact b x c.release.new.self back c.truncate.new.self.items items,
      omega (arith, c.self.invariant.1, c.push_fact.ensures.capacity, c.truncate.ensures.capacity),
      c.self.invariant.2,
    )
