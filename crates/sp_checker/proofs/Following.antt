-- One more step that lacks nothing.
use Rattle.std.proofs.Common.{◌≡◌, ℕ, ◌+◌, ◌<◌, ◌||◌, Bool, true, List, ◌∷◌, length, drop, get_or, Some, None, sym, ap, ◌∙◌, add-one}
use Rattle.std.proofs.Math.Seq.{drop-cons}
use Rattle.std.proofs.Math.Path.{fun_ext}
use Rattle.sp_rules.specs.declared.fact.Fact.{Fact}
use Rattle.sp_rules.specs.declared.fact.Lack.{Lack}
use Rattle.sp_rules.specs.declared.fact.Step.{Step}
use Rattle.sp_rules.specs.Facts.{is_fact}
use Rattle.sp_rules.specs.Table.{in_range, lack_of}
use Rattle.sp_rules.specs.Terms.{Terms, count}
use Rattle.sp_rules.proofs.FactLemmas.{both_hold}
use Rattle.sp_rules.proofs.Steps.{ready}
use Rattle.sp_cert.specs.declared.cert.CertFault.TheVariants.{BadStep}
use Rattle.sp_cert.specs.Checks.{Judge, Facts, next, with_steps, count_steps, bad_or, bad_step, ends_in_clash}
use Rattle.sp_rules.specs.Facts.{with_fact}

module _ (ss : List Step) (i : ℕ) (d : Step) (below : i < length ss) where
  abbrev s : Step
  s = get_or ss i d

  abbrev rest : List Step
  rest = drop (i + 1) ss

  front : drop i ss ≡ s ∷ rest
  front = drop-cons ss i d below ∙ ap (λ k. s ∷ drop k ss) (sym (add-one i))

  pub bad_after : (j : Judge) (h h' : Facts) (n : ℕ) → j.lack h s ≡ None → ((f : Fact) → h' f ≡ (is_fact s.fact f || h f)) → bad_step j h n (drop i ss) ≡ bad_step j h' (next n) rest
  bad_after j h h' n lacks has =
      ap (bad_step j h n) front ∙ ap (λ o. bad_or o (next n) (bad_step j (with_fact s.fact h) (next n) rest)) lacks ∙ ap (λ g. bad_step j g (next n) rest) (sym (fun_ext has))

  pub bad_here : (j : Judge) (h : Facts) (n : ℕ) (l : Lack) → j.lack h s ≡ Some l → bad_step j h n (drop i ss) ≡ Some (BadStep (next n) l)
  bad_here j h n l lacks = ap (bad_step j h n) front ∙ ap (λ o. bad_or o (next n) (bad_step j (with_fact s.fact h) (next n) rest)) lacks

  pub count_after : (n : ℕ) → count_steps n (drop i ss) ≡ count_steps (next n) rest
  count_after n = ap (count_steps n) front

  pub clash_after : (j : Judge) (c : Bool) → ends_in_clash j c (drop i ss) ≡ ends_in_clash j (j.is_clash s.fact) rest
  clash_after j c = ap (ends_in_clash j c) front

  pub holds_after : (h h' : Facts) → ((f : Fact) → h' f ≡ (is_fact s.fact f || h f)) → (f : Fact) → with_steps (drop i ss) h f ≡ with_steps rest h' f
  holds_after h h' has f = ap (λ l. with_steps l h f) front ∙ ap (λ g. with_steps rest g f) (sym (fun_ext has))

-- the fact of a step that lacks nothing is about terms
pub within_from_lack : (ts : Terms) (h : Facts) (s : Step) → lack_of ts h s ≡ None → in_range (count ts) s.fact ≡ true
within_from_lack ts h s e = (both_hold _ _ (both_hold _ _ (ready ts h s e).are_terms_here).0).0
