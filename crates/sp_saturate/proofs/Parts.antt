-- The steps of a trail that aren't given.
use Rattle.std.proofs.Common.{◌≡◌, ℕ, ◌+◌, ◌<◌, ◌≤◌, ◌⊎◌, ⊎_elim, ◌||◌, ◌&&◌, Bool, true, false, eqb, List, [], ◌∷◌, ◌++◌, length, take, Option, Some, None, cond, Result, Ok, Err, IfOk, refl, sym, ap, ◌∙◌, subst, inl, inr, arith}
use Rattle.std.proofs.lemmas.List.{length-append, take_more, take-append-le, get_or_append_left}
use Rattle.std.proofs.Math.Seq.{take-append_seam, take-length, get_or-append_seam}
use Rattle.std.proofs.lemmas.Bool.{eq-eqb}
use Rattle.sp_rules.specs.Terms.{Terms}
use Rattle.sp_rules.specs.Table.{lack_of}
use Rattle.sp_rules.specs.declared.fact.Fact.{Fact}
use Rattle.sp_rules.specs.declared.fact.Fact.TheVariants.{Eq, Le}
use Rattle.sp_rules.specs.declared.fact.Step.{Step}
use Rattle.sp_rules.proofs.Steps.{lacks_no_more, lacks_nothing, no_lack}
use Rattle.std.proofs.lemmas.Bool.Decides.{Decides-ltb}
use Rattle.sp_rules.specs.Terms.{count}
use Rattle.sp_saturate.specs.Steps.{on, given_on, given, step_at, AreFound}
use Rattle.sp_saturate.specs.Trail.{Found}
use Rattle.sp_saturate.specs.Accepted.{AreAccepted}
use Rattle.sp_saturate.specs.Front.{AreFront, turned}
use Rattle.sp_saturate.proofs.Trails.{given_on-append}
use Rattle.sp_saturate.proofs.Levels.{given_at, given-none, given_in_front}
use Rattle.sp_rules.specs.Clash.{is_clash}
use Rattle.sp_rules.specs.Facts.{is_fact}
use Rattle.sp_rules.proofs.FactLemmas.{is_fact-true, both_hold, both_true, first_holds, second_holds, one_holds}
use Rattle.sp_saturate.proofs.StepLemmas.{on-append, on-none}

abbrev pub no_step : Option Step
no_step = None

abbrev pub some_step : Step → Option Step
some_step s = Some s

-- what the first k steps of a trail give, of which these aren't given; none of these is a clash
pub record IsPart (t : Found) (k : ℕ) (steps : List Step) : Type 0 where
  pub accepted : AreAccepted t.terms (given_on t.steps) steps
  pub covers : (f : Fact) → on (take k t.steps) f ≡ true → (given_on (take k t.steps) f || on steps f) ≡ true
  pub calm : (f : Fact) → given_on (take k t.steps) f ≡ true → turned t.terms f ≡ no_step
  pub under : (f : Fact) → on steps f ≡ true → on (take k t.steps) f ≡ true
  pub quiet : (f : Fact) → on steps f ≡ true → is_clash t.terms f ≡ false
  pub few : length steps ≤ k

pub part_none : (t : Found) → IsPart t 0 []
part_none t = record {
  accepted = record { accepted = λ k l. absurd (omega arith); apart = λ k l. absurd (omega arith) };
  covers = λ f e. absurd (cc (sym (on-none f) ∙ e));
  calm = λ f e. absurd (cc (sym (given-none f) ∙ e));
  under = λ f e. absurd (cc (sym (on-none f) ∙ e));
  quiet = λ f e. absurd (cc (sym (on-none f) ∙ e));
  few = omega arith;
}

split_last : (k n : ℕ) → k < n + 1 → (k < n) ⊎ (k ≡ n)
split_last k n l = grind arith

-- one step more is accepted
accepted_more : (ts : Terms) (g : Fact → Bool) (xs : List Step) (s : Step) → AreAccepted ts g xs → lack_of ts (λ f. g f || on xs f) s ≡ no_lack → on xs s.fact ≡ false
    → AreAccepted ts g (xs ++ s ∷ [])
accepted_more ts g xs s a lacks new = record {
  accepted = λ k l. ⊎_elim
      (λ (b : k < length xs). subst (λ ys. lack_of ts (λ f. g f || on ys f) (step_at (xs ++ s ∷ []) k) ≡ no_lack) (sym (front k b)) (subst (λ z. lack_of ts (λ f. g f || on (take k xs) f) z ≡ no_lack) (sym (there k b)) (a.accepted k b)))
      (λ (b : k ≡ length xs). subst (λ ys. lack_of ts (λ f. g f || on ys f) (step_at (xs ++ s ∷ []) k) ≡ no_lack) (sym (whole k b)) (subst (λ z. lack_of ts (λ f. g f || on xs f) z ≡ no_lack) (sym (here k b)) lacks))
      (split_last k (length xs) (omega (arith, l, length-append xs (s ∷ []))));
  apart = λ k l. ⊎_elim
      (λ (b : k < length xs). subst (λ ys. on ys (step_at (xs ++ s ∷ []) k).fact ≡ false) (sym (front k b)) (subst (λ z. on (take k xs) z.fact ≡ false) (sym (there k b)) (a.apart k b)))
      (λ (b : k ≡ length xs). subst (λ ys. on ys (step_at (xs ++ s ∷ []) k).fact ≡ false) (sym (whole k b)) (subst (λ z. on xs z.fact ≡ false) (sym (here k b)) new))
      (split_last k (length xs) (omega (arith, l, length-append xs (s ∷ []))));
}
  where
    front : (k : ℕ) → k < length xs → take k (xs ++ s ∷ []) ≡ take k xs
    front k b = take-append-le k xs (s ∷ []) (omega arith)

    there : (k : ℕ) → k < length xs → step_at (xs ++ s ∷ []) k ≡ step_at xs k
    there k b = get_or_append_left xs (s ∷ []) (given (Eq 0 0)) k b

    whole : (k : ℕ) → k ≡ length xs → take k (xs ++ s ∷ []) ≡ xs
    whole k b = ap (λ n. take n (xs ++ s ∷ [])) b ∙ take-append_seam xs (s ∷ [])

    here : (k : ℕ) → k ≡ length xs → step_at (xs ++ s ∷ []) k ≡ s
    here k b = ap (λ n. step_at (xs ++ s ∷ []) n) b ∙ get_or-append_seam xs s [] (given (Eq 0 0))

module _ (t : Found) (found : AreFound t.terms t.steps) (k : ℕ) (below : k < length t.steps) (steps : List Step) (part : IsPart t k steps) where
  abbrev s : Step
  s = step_at t.steps k

  one_more : (f : Fact) → on (take (k + 1) t.steps) f ≡ (on (take k t.steps) f || is_fact s.fact f)
  one_more f = ap (λ xs. on xs f) (take_more t.steps k (given (Eq 0 0)) below) ∙ on-append (take k t.steps) s f

  given_more_here : (f : Fact) → given_on (take (k + 1) t.steps) f ≡ (given_on (take k t.steps) f || (eqb s.rule 0 && is_fact s.fact f))
  given_more_here f = ap (λ xs. given_on xs f) (take_more t.steps k (given (Eq 0 0)) below) ∙ given_on-append (take k t.steps) s f

  -- the k-th step is given, and no clash the other way round
  pub part_given : s.rule ≡ 0 → turned t.terms s.fact ≡ no_step → IsPart t (k + 1) steps
  part_given e quiet = record {
    accepted = part.accepted;
    covers = λ f on_f. ⊎_elim
        (λ h. ⊎_elim (λ g. first_holds _ (on steps f) (given_more_here f ∙ first_holds _ _ g)) (λ g. second_holds (given_on (take (k + 1) t.steps) f) _ g) (one_holds _ _ (part.covers f h)))
        (λ h. first_holds _ (on steps f) (given_more_here f ∙ second_holds (given_on (take k t.steps) f) _ (both_true _ _ (eq-eqb s.rule 0 e) h)))
        (one_holds _ _ (sym (one_more f) ∙ on_f));
    calm = λ f g. ⊎_elim (part.calm f) (λ h. ap (turned t.terms) (sym (is_fact-true s.fact f (both_hold _ _ h).1)) ∙ quiet) (one_holds _ _ (sym (given_more_here f) ∙ g));
    under = λ f on_f. one_more f ∙ first_holds _ _ (part.under f on_f);
    quiet = part.quiet;
    few = omega (arith, part.few);
  }

  given_front : (f : Fact) → given_on (take k t.steps) f ≡ true → given_on t.steps f ≡ true
  given_front f e = given_in_front k t.steps f e

  covers_all : (f : Fact) → on (take k t.steps) f ≡ true → (given_on t.steps f || on steps f) ≡ true
  covers_all f e = ⊎_elim (λ g. first_holds _ (on steps f) (given_front f g)) (λ g. second_holds (given_on t.steps f) _ g) (one_holds _ _ (part.covers f e))

  accepted_here : (eqb s.rule 0 ≡ false) → AreAccepted t.terms (given_on t.steps) (steps ++ s ∷ [])
  accepted_here e = ⊎_elim (λ z. absurd (cc (sym e ∙ eq-eqb s.rule 0 z)))
      (λ lacks. accepted_more t.terms (given_on t.steps) steps s part.accepted (lacks_no_more t.terms (on (take k t.steps)) (λ f. given_on t.steps f || on steps f) covers_all s lacks) new)
      (found k below).reason
    where
      new : on steps s.fact ≡ false
      new = by (on steps s.fact) refl
        where
          by : (b : Bool) → on steps s.fact ≡ b → on steps s.fact ≡ false
          by true w = absurd (cc (sym (found k below).new ∙ part.under s.fact w))
          by false w = w

  -- the k-th step isn't given, and no clash
  pub part_more : eqb s.rule 0 ≡ false → is_clash t.terms s.fact ≡ false → IsPart t (k + 1) (steps ++ s ∷ [])
  part_more e silent = record {
    accepted = accepted_here e;
    covers = λ f on_f. ⊎_elim
        (λ h. ⊎_elim (λ g. first_holds _ (on (steps ++ s ∷ []) f) (given_more_here f ∙ first_holds _ _ g))
        (λ g. second_holds (given_on (take (k + 1) t.steps) f) (on (steps ++ s ∷ []) f) (on-append steps s f ∙ first_holds (on steps f) (is_fact s.fact f) g)) (one_holds _ _ (part.covers f h)))
        (λ h. second_holds (given_on (take (k + 1) t.steps) f) (on (steps ++ s ∷ []) f) (on-append steps s f ∙ second_holds (on steps f) (is_fact s.fact f) h)) (one_holds _ _ (sym (one_more f) ∙ on_f));
    calm = λ f g. ⊎_elim (part.calm f) (λ h. absurd (cc (sym e ∙ (both_hold _ _ h).0))) (one_holds _ _ (sym (given_more_here f) ∙ g));
    under = λ f on_f. one_more f ∙ ⊎_elim (λ h. first_holds _ _ (part.under f h)) (λ h. second_holds (on (take k t.steps) f) _ h) (one_holds _ _ (sym (on-append steps s f) ∙ on_f));
    quiet = λ f on_f. ⊎_elim (part.quiet f) (λ h. ap (is_clash t.terms) (sym (is_fact-true s.fact f h)) ∙ silent) (one_holds _ _ (sym (on-append steps s f) ∙ on_f));
    few = omega (arith, part.few, length-append steps (s ∷ []));
  }

  -- the k-th step isn't given, and a clash
  pub front_here : eqb s.rule 0 ≡ false → is_clash t.terms s.fact ≡ true → AreFront t (steps ++ s ∷ [])
  front_here e clash = record {
    accepted = accepted_here e;
    few = omega (arith, part.few, below, length-append steps (s ∷ []));
    ends = λ f on_f c. inl (length steps, sym (length-append steps (s ∷ [])), ap (λ z. is_clash t.terms z.fact) (get_or-append_seam steps s [] (given (Eq 0 0))) ∙ clash);
  }

  module _ (i j : ℕ) (is : s.fact ≡ Eq i j) (e : s.rule ≡ 0) (clash : is_clash t.terms (Eq j i) ≡ true) where
    abbrev turn : Step
    turn = record { fact = Eq j i; rule = 2; p = 0; q = 0 }

    lacks : lack_of t.terms (λ f. given_on t.steps f || on steps f) turn ≡ no_lack
    lacks =
        let r = (both_hold _ _ clash).0 in
        let some : 0 < count t.terms = omega (arith, (Decides-ltb j (count t.terms)).0 (both_hold _ _ r).0) in
        let z = (Decides-ltb 0 (count t.terms)).1 some in
        lacks_nothing t.terms (λ f. given_on t.steps f || on steps f) turn (record {
          are_terms_here = both_true _ _ (both_true _ _ r z) z;
          is_formed_here = refl;
          first = true;
          are_met = λ f p. ap (λ g. given_on t.steps g || on steps g) (p ∙ sym is) ∙ first_holds _ (on steps s.fact) (given_at t.steps k below e);
        })

    new_turn : on steps (Eq j i) ≡ false
    new_turn = by (on steps (Eq j i)) refl
      where
        by : (b : Bool) → on steps (Eq j i) ≡ b → on steps (Eq j i) ≡ false
        by true w = absurd (cc (sym (part.quiet (Eq j i) w) ∙ clash))
        by false w = w

    turned_here : AreFront t (steps ++ turn ∷ [])
    turned_here = record {
      accepted = accepted_more t.terms (given_on t.steps) steps turn part.accepted lacks new_turn;
      few = omega (arith, part.few, below, length-append steps (turn ∷ []));
      ends = λ f on_f c. inl (length steps, sym (length-append steps (turn ∷ [])), ap (λ z. is_clash t.terms z.fact) (get_or-append_seam steps turn [] (given (Eq 0 0))) ∙ clash);
    }

  -- the k-th step is given, and a clash the other way round
  pub front_turned : (u : Step) → s.rule ≡ 0 → turned t.terms s.fact ≡ some_step u → AreFront t (steps ++ u ∷ [])
  front_turned u e w = by s.fact refl w
    where
      by : (f : Fact) → s.fact ≡ f → turned t.terms f ≡ some_step u → AreFront t (steps ++ u ∷ [])
      by (Eq i j) is g = choose (is_clash t.terms (Eq j i)) refl g
        where
          choose : (b : Bool) → is_clash t.terms (Eq j i) ≡ b → cond b (some_step (record { fact = Eq j i; rule = 2; p = 0; q = 0 })) None ≡ some_step u → AreFront t (steps ++ u ∷ [])
          choose true c h = subst (λ x. AreFront t (steps ++ x ∷ [])) (cc) (turned_here i j is e c)
          choose false c h = absurd (cc)
      by (Le i j) is g = absurd (cc)

-- all steps, none of which is a clash
pub front_whole : (t : Found) (steps : List Step) → IsPart t (length t.steps) steps → AreFront t steps
front_whole t steps part = record {
  accepted = part.accepted;
  few = part.few;
  ends = λ f on_f c. ⊎_elim (λ g. inr (ap (λ xs. given_on xs f) (sym (take-length t.steps)) ∙ g, part.calm f g)) (λ h. absurd (cc (sym (part.quiet f h) ∙ c))) (one_holds _ _ (part.covers f (ap (λ xs. on xs f) (take-length t.steps) ∙ on_f)));
}

-- what holds of each value holds where something is answered
pub ok_more : {A E : Type 0} (P Q : A → Type 0) → ((x : A) → P x → Q x) → (r : Result A E) → IfOk r P → IfOk r Q
ok_more P Q more (Ok x) h = more x h
ok_more P Q more (Err e) h = h
