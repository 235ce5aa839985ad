-- A formula in numbers: TRUE and FALSE are its first terms, its atoms are few; and what a certificate tells of it.
use Rattle.std.proofs.Common.{◌≡◌, ℕ, ◌+◌, ◌<◌, ◌≤◌, Bool, true, false, List, [], ◌∷◌, ◌++◌, length, refl, sym, ap, ◌∙◌, subst, arith}
use Rattle.std.specs.Prelude.{Result, Ok, Err, IfOk, if◌then◌else◌}
use Rattle.std.proofs.lemmas.Bool.Decides.{Decides-ltb}
use Rattle.std.proofs.lemmas.List.{length-map}
use Rattle.either.specs.declared.Either.{Either}
use Rattle.either.specs.declared.Either.TheVariants.{Left, Right}
use Rattle.sp_values.specs.declared.value.Ty.{Ty}
use Rattle.sp_lattice.specs.Order.{Order}
use Rattle.sp_core.specs.Parts.{Parts, signature}
use Rattle.sp_core.specs.Tree.{Tree}
use Rattle.sp_core.specs.Typing.{Signature}
use Rattle.sp_core.specs.WellFormed.{IsWellFormed}
use Rattle.sp_rules.specs.Terms.{Terms, count}
use Rattle.sp_rules.proofs.FactLemmas.{both_true}
use Rattle.sp_pool.specs.declared.node.Node.{Node}
use Rattle.sp_sequent.specs.Claims.{Claim, IsTypedClaim, numbers_of, question_of, terms_in}
use Rattle.sp_sequent.specs.Numbers.{node_of, nodes_of}
use Rattle.sp_sequent.specs.OwnTypes.{atoms_from, is_atom, is_level}
use Rattle.sp_sequent.specs.Sequents.{TermNumbers, question_over}
use Rattle.sp_sequent.specs.Subterms.{ends, truths}
use Rattle.sp_sequent.proofs.Numbering.{with_all_grows}
use Rattle.sp_cert.specs.declared.cert.Cert.{Cert}
use Rattle.sp_claims.proofs.Against.{closed_claims_hold}
use Rattle.sp_prover.specs.declared.branch.Branch.{Branch}
use Rattle.sp_prover.specs.declared.branch.DecideFault.{DecideFault}
use Rattle.sp_prover.specs.Deciding.{Decides, HasTruths, Tells}
use Rattle.std.specs.List.{flat_map}

abbrev terms_over : List Bool → Order → List Tree → Terms
terms_over levels lattice ts = record { nodes = nodes_of ts; levels = levels; lattice = lattice }

-- where TRUE and FALSE stand first, they clash
truths_first : (levels : List Bool) (lattice : Order) (ts us : List Tree) → ts ≡ truths ++ us → HasTruths (terms_over levels lattice ts)
truths_first levels lattice ts us first = subst (λ xs. HasTruths (terms_over levels lattice xs)) (sym first) clash
  where
    all : Terms
    all = terms_over levels lattice (truths ++ us)

    long : 1 < count all
    long = omega (arith, length-map (truths ++ us) (node_of (truths ++ us)))

    clash : HasTruths (terms_over levels lattice (truths ++ us))
    clash = both_true _ _ (both_true _ _ ((Decides-ltb 0 (count all)).1 (omega (arith, long))) ((Decides-ltb 1 (count all)).1 long)) refl

pub has_truths : (p : Parts) (c : Claim) → HasTruths (question_of p c).terms
has_truths p c =
    let g = with_all_grows truths (flat_map ends (c.hypotheses ++ c.goal ∷ [])) in
    truths_first (question_of p c).terms.levels p.lattice (terms_in c) g.0 g.1

few_from : (sg : Signature) (xs : List Ty) (k : ℕ) (es : List Tree) → length (atoms_from sg xs k es) ≤ length es
few_from sg xs k [] = omega arith
few_from sg xs k (e ∷ es) = by (is_atom sg xs e) (few_from sg xs (k + 1) es)
  where
    by : (b : Bool) → length (atoms_from sg xs (k + 1) es) ≤ length es → length (if b then k ∷ atoms_from sg xs (k + 1) es else atoms_from sg xs (k + 1) es) ≤ length (e ∷ es)
    by true l = omega (arith, l)
    by false l = omega (arith, l)

pub few_atoms : (p : Parts) (c : Claim) → length (question_of p c).atoms ≤ length (terms_in c)
few_atoms p c = few_from (signature p) c.types 0 (terms_in c)

-- as many nodes as terms are told to be level terms or not
pub as_many : (p : Parts) (c : Claim) → length (nodes_of (terms_in c)) ≡ length (question_of p c).terms.levels
as_many p c = length-map (terms_in c) (node_of (terms_in c)) ∙ sym (length-map (terms_in c) (is_level (signature p) c.types))

-- the numbers over the pool are the formula's question
pub question_is : (p : Parts) (c : Claim) (nodes : List Node) (numbers : TermNumbers) → nodes ≡ nodes_of (terms_in c) → numbers ≡ numbers_of p c → question_over p nodes numbers ≡ question_of p c
question_is p c nodes numbers e f = ap (λ ns. question_over p ns numbers) e ∙ ap (λ (s : TermNumbers). question_over p (nodes_of (terms_in c)) s) f

pub told : (p : Parts) (c : Claim) → IsWellFormed p → IsTypedClaim p c → (r : Result (Either Cert Branch) DecideFault) → IfOk r (λ e. Decides (question_of p c) e) → IfOk r (λ e. Tells p c e)
told p c wf typed (Ok (Left t)) d = closed_claims_hold p c wf typed d.closed
told p c wf typed (Ok (Right b)) d = tt
told p c wf typed (Err f) d = tt
