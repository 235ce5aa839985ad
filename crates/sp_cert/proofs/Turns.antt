-- The turns of a loop that reads so many steps.
use Rattle.std.proofs.Common.{◌≡◌, ℕ, suc, ◌+◌, ◌-◌, ◌<◌, ◌≤◌, true, false, List, [], ◌∷◌, ◌++◌, Result, Ok, Err, refl, sym, ap, ◌∙◌, subst, arith, append_assoc, append-nil, Vec, Global}
use Rattle.sp_text.specs.declared.fault.TextFault.{TextFault}
use Rattle.sp_rules.specs.declared.fact.Step.{Step}
use Rattle.sp_cert.specs.Fields.{step_of}
use Rattle.sp_cert.specs.Input.{Input, Outcome, and_then, one, Reads}
use Rattle.sp_cert.specs.Reader.{steps, formula, formulas, until_end}
use Rattle.sp_cert.specs.Views.{same, is_empty}
use Rattle.sp_cert.specs.declared.cert.Cert.{Cert}
use Rattle.sp_cert.specs.Tree.{Tree, tree, trees}

-- these, before those that are read
abbrev pub after : {A : Type 0} → List A → Outcome (List A) → Outcome (List A)
after xs o = and_then o (λ ys k. Ok (xs ++ ys, k))

after_more : {A : Type 0} (xs : List A) (x : A) (o : Outcome (List A)) → after xs (and_then o (λ ys k. Ok (x ∷ ys, k))) ≡ after (xs ++ x ∷ []) o
after_more {A} xs x (Ok p) = ap (λ (l : List A). let r : Outcome (List A) = Ok (l, p.1) in r) (sym (append_assoc xs (x ∷ []) p.0))
after_more xs x (Err e) = refl

module _ {x : Outcome (List Step)} (n at : ℕ) (found : List Step) (i : Input) where
  turn : at < n → x ≡ after found (steps (n - at) i) → x ≡ after found (steps (suc (n - (at + 1))) i)
  turn below h = let t : n - at ≡ suc (n - (at + 1)) = omega arith in h ∙ ap (λ m. after found (steps m i)) t

  refused : at < n → (e : TextFault) → one step_of i ≡ Err e → x ≡ after found (steps (n - at) i) → x ≡ Err e
  unfolding steps
  refused below e q h = turn below h ∙ ap (λ o. after found (and_then o (λ s j. and_then (steps (n - (at + 1)) j) (λ ss m. Ok (s ∷ ss, m))))) q

  added : at < n → (s : Step) (j : Input) → one step_of i ≡ Ok (s, j) → x ≡ after found (steps (n - at) i) → x ≡ after (found ++ s ∷ []) (steps (n - (at + 1)) j)
  unfolding steps
  added below s j q h =
      turn below h ∙ ap (λ o. after found (and_then o (λ s j. and_then (steps (n - (at + 1)) j) (λ ss m. Ok (s ∷ ss, m))))) q
      ∙ after_more found s (steps (n - (at + 1)) j)

  pub step_refused : at < n → (j k : Input) {r : Result Step TextFault} {e d : TextFault} {s : Result (List Step) TextFault} → r ≡ Err e → Reads same (one step_of i) r j → s ≡ Err d → d ≡ e
      → x ≡ after found (steps (n - at) i) → Reads same x s k
  step_refused below j k {r} {e} {d} {s} q R u v h =
      let R' : Reads same (one step_of i) (Err e) j = subst (λ z. Reads same (one step_of i) z j) q R in
      subst (λ z. Reads same x z k) (sym u) (λ m. refused below e (R' (λ y. m (v ∙ y))) h ∙ ap Err (sym v))

  pub step_added : at < n → (j : Input) {r : Result Step TextFault} {s : Step} {ss : List Step} → r ≡ Ok s → Reads same (one step_of i) r j → ss ≡ found ++ s ∷ []
      → x ≡ after found (steps (n - at) i) → x ≡ after ss (steps (n - (at + 1)) j)
  step_added below j {r} {s} {ss} q R u h =
      let R' : one step_of i ≡ Ok (s, j) = subst (λ z. Reads same (one step_of i) z j) q R in
      added below s j R' h ∙ ap (λ t. after t (steps (n - (at + 1)) j)) (sym u)

  pub steps_read : n ≤ at → x ≡ after found (steps (n - at) i) → x ≡ Ok (found, i)
  unfolding steps
  steps_read done h =
      let none : n - at ≡ 0 = omega arith in
      h ∙ ap (λ m. after found (steps m i)) none ∙ ap (λ (l : List Step). let r : Outcome (List Step) = Ok (l, i) in r) (append-nil found)

-- The turns of a loop that reads formulas up to the text's end.
is_done : {A : Type 0} (l : List ℕ) (o : Outcome (List A)) (i : Input) → true ≡ is_empty l → until_end l o i ≡ Ok ([], i)
is_done [] o i e = refl
is_done (b ∷ l) o i e = absurd (cc)

goes_on : {A : Type 0} (l : List ℕ) (o : Outcome (List A)) (i : Input) → false ≡ is_empty l → until_end l o i ≡ o
goes_on [] o i e = absurd (cc)
goes_on (b ∷ l) o i e = refl

module _ (format b : ℕ) (n at : ℕ) (found : List Tree) (i : Input) where
  abbrev pub Before : Outcome (List Tree) → Type 0
  Before x = x ≡ after found (formulas format b (n - at) (at + 1) i)

  abbrev pub rest : Outcome Tree → Outcome (List Tree)
  rest o = and_then o (λ t k. and_then (formulas format b (n - (at + 1)) (at + 1 + 1) k) (λ ts y. Ok (t ∷ ts, y)))

  next : {x : Outcome (List Tree)} → at < n → Before x → x ≡ after found (until_end i.rest (rest (formula format b (at + 1) i)) i)
  unfolding formulas
  next below h = let t : n - at ≡ suc (n - (at + 1)) = omega arith in h ∙ ap (λ m. after found (formulas format b m (at + 1) i)) t

  more : {x : Outcome (List Tree)} → at < n → false ≡ is_empty i.rest → Before x → x ≡ after found (rest (formula format b (at + 1) i))
  more below go h = next below h ∙ ap (after found) (goes_on i.rest (rest (formula format b (at + 1) i)) i go)

  pub formula_refused : {x : Outcome (List Tree)} → at < n → false ≡ is_empty i.rest → (j k : Input) {r : Result Cert TextFault} {e d : TextFault} {s : Result (Vec Cert Global) TextFault} → r ≡ Err e
      → Reads tree (formula format b (at + 1) i) r j → s ≡ Err d → d ≡ e → Before x → Reads trees x s k
  formula_refused {x} below go j k {r} {e} {d} {s} q R u v h =
      let R' : Reads tree (formula format b (at + 1) i) (Err e) j = subst (λ z. Reads tree (formula format b (at + 1) i) z j) q R in
      subst (λ z. Reads trees x z k) (sym u) (λ m. more below go h ∙ ap (λ o. after found (rest o)) (R' (λ y. m (v ∙ y))) ∙ ap Err (sym v))

  pub formula_added : {x : Outcome (List Tree)} → at < n → false ≡ is_empty i.rest → (j : Input) {r : Result Cert TextFault} {c : Cert} {cs : List Tree} → r ≡ Ok c → Reads tree (formula format b (at + 1) i) r j → cs ≡ found ++ tree c ∷ []
      → Before x → x ≡ after cs (formulas format b (n - (at + 1)) (at + 1 + 1) j)
  formula_added below go j {r} {c} {cs} q R u h =
      let R' : formula format b (at + 1) i ≡ Ok (tree c, j) = subst (λ z. Reads tree (formula format b (at + 1) i) z j) q R in
      more below go h ∙ ap (λ o. after found (rest o)) R' ∙ after_more found (tree c) (formulas format b (n - (at + 1)) (at + 1 + 1) j)
      ∙ ap (λ t. after t (formulas format b (n - (at + 1)) (at + 1 + 1) j)) (sym u)

  abbrev pub done : List Tree → Outcome (List Tree)
  done l = Ok (l, i)

  pub formulas_done : {x : Outcome (List Tree)} → at < n → true ≡ is_empty i.rest → Before x → x ≡ Ok (found, i)
  formulas_done below e h = next below h ∙ ap (after found) (is_done i.rest (rest (formula format b (at + 1) i)) i e) ∙ ap done (append-nil found)

  pub formulas_read : {x : Outcome (List Tree)} → n ≤ at → Before x → x ≡ Ok (found, i)
  unfolding formulas
  formulas_read d h = let none : n - at ≡ 0 = omega arith in h ∙ ap (λ m. after found (formulas format b m (at + 1) i)) none ∙ ap done (append-nil found)
