-- Taking an answer apart, and what it says where nothing is assumed.
use Rattle.std.proofs.Common.{◌≡◌, ℕ, ◌-◌, ◌<◌, ◌≤◌, Bool, true, false, List, [], ◌∷◌, ◌++◌, length, take, refl, sym, ap, ◌∙◌, subst, inr, arith}
use Rattle.std.specs.Option.{is_some}
use Rattle.std.specs.Prelude.{Option, Some, None, Result, Ok, Err, IfOk, IfErr}
use Rattle.std.proofs.lemmas.List.{length-append, append-nil}
use Rattle.std.proofs.Math.Seq.{take-append_seam}
use Rattle.either.specs.declared.Either.{Either}
use Rattle.either.specs.declared.Either.TheVariants.{Left, Right}
use Rattle.sp_text.specs.declared.fault.Memory as text
use Rattle.sp_rules.specs.Branches.{HasClash}
use Rattle.sp_rules.specs.Clash.{IsFirstClash}
use Rattle.sp_rules.specs.Facts.{has_truth, is_one_of}
use Rattle.sp_rules.specs.Questions.{IsQuestion}
use Rattle.sp_rules.specs.declared.fact.Fact.{Fact}
use Rattle.sp_saturate.specs.Situations.{IsFollowing, Situation, assuming, supposed}
use Rattle.sp_cert.specs.declared.cert.Cert.{Cert}
use Rattle.sp_cert.specs.Checks.{fault}
use Rattle.sp_cert.specs.Tree.{Tree, tree}
use Rattle.sp_checker.specs.Known.{judge}
use Rattle.sp_prover.specs.declared.branch.Branch.{Branch}
use Rattle.sp_prover.specs.declared.branch.DecideFault.TheVariants.{TooManyAtoms}
use Rattle.sp_prover.specs.Deciding.{AreUndetermined, Decides, HasTruths, IsClashing, IsFirstOpen, IsProof, IsRefused, LeavesFew, LeavesUndetermined, SplitsUndetermined, no_fault, values_of}
use Rattle.sp_prover.specs.Exploring.{Allows, Finds, IsClosed, IsFirstBranch, IsRefuted, IsSettled, atom_at, with_memory}
use Rattle.sp_prover.proofs.Cutting.{given_in}
use Rattle.sp_prover.proofs.Firsts.{first_false, first_true}

pub left_of : (s : Situation) (e : Either Cert Branch) (c : Cert) → Finds s e → e ≡ Left c → IsRefuted s (tree c)
left_of s e c f is = subst (Finds s) is f

pub right_of : (s : Situation) (e : Either Cert Branch) (b : Branch) → Finds s e → e ≡ Right b → IsFirstBranch s b
right_of s e b f is = subst (Finds s) is f

pub branch_true : (s : Situation) (a : ℕ) (b : Branch) → HasTruths s.question.terms → IsQuestion s.question → a < length s.question.atoms → ((k : ℕ) → k < a → IsSettled s k) → IsFirstBranch (assuming s a true) b → IsFirstBranch s b
branch_true s a b truths question l settled f = record { as_many = f.as_many; first = first_true s a (values_of b) truths question l settled f.first }

pub branch_false : (s : Situation) (a : ℕ) (t : Tree) (b : Branch) → a < length s.question.atoms → IsRefuted (assuming s a true) t → IsFirstBranch (assuming s a false) b → IsFirstBranch s b
branch_false s a t b l refuted f = record { as_many = f.as_many; first = first_false s a t (values_of b) l refuted f.first }

-- whether a first clash is found tells whether a clash follows
pub some_clash : (s : Situation) (o : Option Fact) → IsFirstClash s.question.terms (IsFollowing s) o → is_some o ≡ true → IsClosed s
some_clash s None h e = absurd (cc)
some_clash s (Some f) h e = (f, h.clash, h.there)

pub no_clash : (s : Situation) (o : Option Fact) → IsFirstClash s.question.terms (IsFollowing s) o → is_some o ≡ false → IsClosed s → ⊥
no_clash s None h e clash = absurd (cc (h clash.0 clash.2, clash.1))
no_clash s (Some f) h e clash = absurd (cc)

-- the last assumption taken back
pub back_is : (s : Situation) (a : ℕ) (b : Bool) (t u : Situation) → t ≡ assuming s a b → u ≡ record t { assumed = take (length t.assumed - 1) t.assumed } → u ≡ s
back_is s a b t u e d =
    d ∙ ap (λ (x : Situation). let y : Situation = record { question = x.question; assumed = take (length x.assumed - 1) x.assumed } in y) e
    ∙ ap (λ (xs : List Fact). let y : Situation = record { question = s.question; assumed = xs } in y) taken
  where
    f : Fact
    f = has_truth (atom_at s a) b

    taken : take (length (s.assumed ++ f ∷ []) - 1) (s.assumed ++ f ∷ []) ≡ s.assumed
    taken = let m : length (s.assumed ++ f ∷ []) - 1 ≡ length s.assumed = omega (arith, length-append s.assumed (f ∷ [])) in
        ap (λ n. take n (s.assumed ++ f ∷ [])) m ∙ take-append_seam s.assumed (f ∷ [])

-- nothing is assumed
module _ (s : Situation) (none : s.assumed ≡ []) where
  given_alone : supposed s ≡ is_one_of s.question.given
  given_alone = ap (λ xs. is_one_of (s.question.given ++ xs)) none ∙ ap is_one_of (append-nil s.question.given)

  all_allowed : (w : ℕ → Bool) → Allows s w
  all_allowed w f e = given_in s.question.atoms w (is_one_of s.question.given) (length s.question.atoms) f (sym (ap (λ h. h f) given_alone) ∙ e)

  refuted_whole : (t : Tree) → IsRefuted s t → IsProof s.question t
  refuted_whole t r = record {
    checks = subst (λ (h : Fact → Bool). fault (judge s.question.terms s.question.atoms) t h 0 0 0 ≡ no_fault) given_alone
        (subst (λ (xs : List Fact). fault (judge s.question.terms s.question.atoms) t (supposed s) (length xs) 0 0 ≡ no_fault) none (r.checks 0 0));
    plain = r.plain;
    short = r.short;
    lean = subst (λ (h : Fact → Bool). SplitsUndetermined s.question.terms s.question.atoms h t) given_alone r.lean;
    spelled = λ v. r.spelled v 64 (omega arith);
    closed = λ w is_open. r.closed w (all_allowed w) is_open;
  }

  first_whole : (b : Branch) → IsFirstBranch s b → IsFirstOpen s.question b
  first_whole b f = record { as_many = f.as_many; is_open = f.first.is_open; least = λ w is_open. f.first.least w is_open (all_allowed w) }

  pub decided : (e : Either Cert Branch) → Finds s e → Decides s.question e
  decided (Left c) f = refuted_whole (tree c) f
  decided (Right b) f = first_whole b f

  pub clashing : IsClosed s → IsClashing s.question
  clashing clash = subst (λ (h : Fact → Bool). HasClash s.question.terms h) given_alone clash

  pub calm : (IsClosed s → ⊥) → IsClashing s.question → ⊥
  calm open_here clash = open_here (subst (λ (h : Fact → Bool). HasClash s.question.terms h) (sym given_alone) clash)

  pub leaves : (places : List ℕ) → AreUndetermined s.question.terms (supposed s) s.question.atoms places → LeavesUndetermined s.question (length places)
  leaves places u = (places, subst (λ (h : Fact → Bool). AreUndetermined s.question.terms h s.question.atoms places) given_alone u, refl)

  pub few_left : (places : List ℕ) → AreUndetermined s.question.terms (supposed s) s.question.atoms places → length places ≤ 20 → LeavesFew s.question
  few_left places u l = inr (length places, leaves places u, l)

  pub too_many : (n : ℕ) → (IsClosed s → ⊥) → (places : List ℕ) → AreUndetermined s.question.terms (supposed s) s.question.atoms places → n ≡ length places → 20 < n → IsRefused s.question (TooManyAtoms n)
  too_many n open_here places u e l = (calm open_here, subst (LeavesUndetermined s.question) (sym e) (leaves places u), l)

  abbrev Answer : Type 0
  Answer = Result (Either Cert Branch) text.Memory

  pub found_decided : (r : Answer) → IfOk r (λ e. Finds s e) → IfOk (with_memory r) (λ e. Decides s.question e)
  found_decided (Ok e) f = decided e f
  found_decided (Err e) f = f

pub found_few : (s : Situation) → LeavesFew s.question → (r : Result (Either Cert Branch) text.Memory) → IfOk (with_memory r) (λ e. LeavesFew s.question)
found_few s few (Ok e) = few
found_few s few (Err e) = tt

pub not_refused : (s : Situation) (r : Result (Either Cert Branch) text.Memory) → IfErr (with_memory r) (λ f. IsRefused s.question f)
not_refused s (Ok e) = tt
not_refused s (Err e) = tt
