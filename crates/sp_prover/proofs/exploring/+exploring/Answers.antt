use Rattle.std.proofs.Common.{◌≡◌, ℕ, ◌+◌, ◌*◌, ◌<◌, ◌≤◌, Bool, true, false, List, length, sym, subst, arith}
use Rattle.std.specs.Prelude.{slice_index, IfSome, MatchOption}
use Rattle.sp_rules.specs.Terms.{count}
use Rattle.sp_saturate.specs.Accepted.{AreAccepted, EndInClash}
use Rattle.sp_saturate.specs.Situations.{Situation, assuming, supposed}
use Rattle.sp_cert.specs.Tree.{tree}
use Rattle.sp_prover.specs.Exploring.{IsClosed, IsFirstBranch, IsPrepared, IsRefuted, IsSettled}
use Rattle.sp_prover.proofs.Finding.{branch_false, branch_true, left_of, right_of}
use Rattle.sp_prover.proofs.Firsts.{leaf_refuted, split_refuted}
use Rattle.sp_prover.proofs.Places.{all_before, before_next, prepared_next}
use Rattle.sp_prover.proofs.exploring.+exploring.Goals as goal

pub explore-first_branch-requires-clause-settled : goal.explore-first_branch-requires-clause-settled
explore-first_branch-requires-clause-settled t c =
    let n = c.next_open-next.ensures in
    all_before c.args.facts.now c.args.places.now c.args.at c.requires.prepared c.next_open-next.result n.above n.before c.if-next-places.true

pub explore-returns-in-Right-clause-finds : goal.explore-returns-in-Right-clause-finds
explore-returns-in-Right-clause-finds t c =
    let s = c.args.facts.now in
    let places = c.args.places.now in
    let next = c.next_open-next.result in
    let n = c.next_open-next.ensures in
    let l : next < length places = omega (arith, c.if-next-places.false, n.place) in
    branch_true s (slice_index places next) c.in-Right.branch c.requires.prepared.truths c.requires.prepared.question (c.requires.prepared.chosen.within next l)
    (λ k m. before_next s places c.args.at c.requires.prepared next n.above n.before l k m (let w = c.requires.prepared.chosen.within next l in omega (arith, m, w)))
    (right_of (assuming s (slice_index places next) true) c.in_ok-cert.field-0 c.in-Right.branch c.in_ok-cert.ensures.finds c.in-Right.is)

-- what a value of the next atom asks
next_ready : (s : Situation) (places : List ℕ) (at : ℕ) → IsPrepared s places at → (next : ℕ) → at ≤ next → ((i : ℕ) → at ≤ i → i < next → IsSettled s (slice_index places i)) → next < length places → (b : Bool)
    → (next < length places) × ((slice_index places next < length s.question.atoms) × ((length s.assumed < 20) × IsPrepared (assuming s (slice_index places next) b) places (next + 1)))
next_ready s places at p next above settled l b = (l, (p.chosen.within next l, (omega (arith, p.assumed, p.chosen.few, above, l), prepared_next s places at p next above settled l b)))

pub explore-explore_value-requires : goal.explore-explore_value-requires
explore-explore_value-requires t c =
    let n = c.next_open-next.ensures in
    let l : c.next_open-next.result < length c.args.places.now = omega (arith, c.if-next-places.false, n.place) in
    (omega (arith, c.decreases, l, n.above), next_ready c.args.facts.now c.args.places.now c.args.at c.requires.prepared c.next_open-next.result n.above n.before l true)

pub explore-explore_value-requires-2 : goal.explore-explore_value-requires-2
explore-explore_value-requires-2 t c =
    let s = c.args.facts.now in
    let places = c.args.places.now in
    let next = c.next_open-next.result in
    let n = c.next_open-next.ensures in
    let l : next < length places = omega (arith, c.if-next-places.false, n.place) in (
      omega (arith, c.decreases, l, n.above),
      subst (λ (t : Situation). (next < length places) × ((slice_index places next < length t.question.atoms) × ((length t.assumed < 20) × IsPrepared (assuming t (slice_index places next) false) places (next + 1))))
          (sym c.explore_value.ensures.same) (next_ready s places c.args.at c.requires.prepared next n.above n.before l false),
    )

pub explore-returns-in-Right-2-clause-finds : goal.explore-returns-in-Right-2-clause-finds
explore-returns-in-Right-2-clause-finds t c =
    let s = c.args.facts.now in
    let places = c.args.places.now in
    let next = c.next_open-next.result in
    let n = c.next_open-next.ensures in
    let a = slice_index places next in
    let l : next < length places = omega (arith, c.if-next-places.false, n.place) in
    let refuted : IsRefuted (assuming s a true) (tree c.in-Left.cert) = left_of (assuming s a true) c.in_ok-cert.field-0 c.in-Left.cert c.in_ok-cert.ensures.finds c.in-Left.is in
    let found : IsFirstBranch (assuming s a false) c.in-Right-2.branch =
    subst (λ (t : Situation). IsFirstBranch (assuming t a false) c.in-Right-2.branch) c.explore_value.ensures.same
    (right_of (assuming c.explore_value.new.facts a false) c.in_ok-cert-2.field-0 c.in-Right-2.branch c.in_ok-cert-2.ensures.finds c.in-Right-2.is) in
    branch_false s a (tree c.in-Left.cert) c.in-Right-2.branch (c.requires.prepared.chosen.within next l) refuted found

pub explore-returns-clause-finds : goal.explore-returns-clause-finds
explore-returns-clause-finds t c =
    let s = c.args.facts.now in
    let places = c.args.places.now in
    let next = c.next_open-next.result in
    let n = c.next_open-next.ensures in
    let a = slice_index places next in
    let l : next < length places = omega (arith, c.if-next-places.false, n.place) in
    let few : length s.assumed < 20 = omega (arith, c.requires.prepared.assumed, n.above, l, c.requires.prepared.chosen.few) in
    let first : IsRefuted (assuming s a true) (tree c.in-Left.cert) = left_of (assuming s a true) c.in_ok-cert.field-0 c.in-Left.cert c.in_ok-cert.ensures.finds c.in-Left.is in
    let second : IsRefuted (assuming s a false) (tree c.in-Left-2.cert) =
    subst (λ (t : Situation). IsRefuted (assuming t a false) (tree c.in-Left-2.cert)) c.explore_value.ensures.same
    (left_of (assuming c.explore_value.new.facts a false) c.in_ok-cert-2.field-0 c.in-Left-2.cert c.in_ok-cert-2.ensures.finds c.in-Left-2.is) in
    subst (IsRefuted s) (sym c.in_ok-split.ensures) (split_refuted s a (tree c.in-Left.cert) (tree c.in-Left-2.cert) (c.requires.prepared.chosen.within next l) c.requires.prepared.few_atoms few (n.free l) first second)

pub explore_value-returns-in-Some-clause-finds : goal.explore_value-returns-in-Some-clause-finds
explore_value-returns-in-Some-clause-finds t c =
    let s = assuming c.args.facts.now (slice_index c.args.places.now c.args.at) c.args.value in
    let p = c.requires.prepared in
    let e = c.in_ok-steps.ensures in
    let is = c.in-Some.is in
    let ts = s.question.terms in
    subst (IsRefuted s) (sym c.unsplit.ensures)
    (leaf_refuted s c.in-Some.steps.items p.question (omega (arith, p.assumed, p.place, p.chosen.few))
    (subst (λ o. IfSome o (λ steps. AreAccepted ts (supposed s) steps.items)) is e.accepted)
    (subst (λ o. IfSome o (λ steps. length steps.items ≤ 2 * (count ts * count ts))) is e.few)
    (subst (λ o. IfSome o (λ steps. EndInClash ts steps.items)) is e.ends)
    (subst (λ o. MatchOption o (IsClosed s → ⊥) (λ steps. IsClosed s)) is e.clash))

pub explore_value-explore-found-requires : goal.explore_value-explore-found-requires
explore_value-explore-found-requires t c =
    let s = assuming c.args.facts.now (slice_index c.args.places.now c.args.at) c.args.value in
    let e = c.in_ok-steps.ensures in
    let is = c.in_default.is in
    let new : c.refute.new.self ≡ s = subst (λ o. MatchOption o (c.refute.new.self ≡ s) (λ steps. c.refute.new.self ≡ c.args.facts.now)) is e.assumed in
    let calm : IsClosed s → ⊥ = subst (λ o. MatchOption o (IsClosed s → ⊥) (λ steps. IsClosed s)) is e.clash in (
      omega (arith, c.decreases, c.requires.at),
      subst (λ (u : Situation). IsPrepared u c.args.places.now (c.args.at + 1) × (IsClosed u → ⊥)) (sym new) (c.requires.prepared, calm),
    )
