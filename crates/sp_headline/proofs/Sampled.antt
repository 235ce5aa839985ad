-- A report of `sample` with a line that begins with ACCEPTED is one that accepts.
use Rattle.std.proofs.Common.{◌≡◌, ◌∙◌, ℕ, zero, suc, List, [], ◌∷◌, None, Result, Ok, Err, ap, refl, sym, subst}
use Rattle.std.specs.List.{All}
use Rattle.std.proofs.lemmas.List.Elements.{All-cons, All-nil}
use Rattle.sp_text.specs.declared.fault.TextFault.{TextFault}
use Rattle.sp_text.specs.declared.fault.TextFault.TheVariants as fault
use Rattle.sp_tree.specs.declared.instance.InstanceTree.{InstanceTree}
use Rattle.sp_tree.specs.declared.interface.InterfaceTree.{InterfaceTree}
use Rattle.sp_tree.specs.declared.module.Module.{Module}
use Rattle.sp_core.specs.Parts.{Parts}
use Rattle.sp_formulas.specs.Formulas.{Formula, formulas}
use Rattle.sp_formulas.specs.Limits.{first_fault}
use Rattle.sp_frame.specs.declared.refusal.Refusal.{Refusal}
use Rattle.sp_frame.specs.declared.refusal.Verdict.{Verdict}
use Rattle.sp_frame.specs.declared.refusal.Verdict.TheVariants as verdict
use Rattle.sp_frame.specs.Endings.{printed, verdict_of}
use Rattle.sp_frame.specs.Steps.{IsNamed, Judged, Onward}
use Rattle.sp_formula_list.specs.Listed.{FormulasListed}
use Rattle.sp_formula_list.proofs.Given.{listing_is}
use Rattle.sp_deciding.specs.Decided.{AllDecided, open_count}
use Rattle.sp_deciding.specs.Verdicts.{verdict_by}
use Rattle.sp_deciding.specs.declared.deciding.Decision.{Decision}
use Rattle.sp_sample.specs.Instance.{sample_instance}
use Rattle.sp_sample.specs.Interface.{sample_interface}
use Rattle.sp_sample.specs.Module.{sample_module}
use Rattle.sp_sorts.specs.declared.reading.Reading.{Reading}
use Rattle.sp_sorts.specs.Sorts.{instances, interfaces, modules}
use Rattle.sp_sorts.specs.Texts.{Grammar, IsTree, Read}
use Rattle.sp_system.specs.System.{SystemJudged}
use Rattle.sp_system.specs.declared.interface.Elaborated.{Elaborated}
use Rattle.sp_system.specs.declared.system.System.{System}
use Rattle.sp_check_command.proofs.Accepted.{judged_by}
use Rattle.sp_sample_command.specs.Sample.{SampleAnswered, SampleDone, SampleWork}
use Rattle.sp_sample_command.specs.Secure.{SampledAreSecure}
use Rattle.sp_sample_command.specs.Summary.{sample_answer, sample_text}
use Rattle.sp_sample_command.specs.Texts.{SampleRead, TextRead, instance_file, interface_file, module_file}
use Rattle.sp_plain_names.specs.Names.{HasPlainNames}
use Rattle.sp_plain_names.proofs.Specifications.{plain_names}
use Rattle.sp_headline.specs.Lines.{HoldsAccepted}
use Rattle.sp_headline.specs.Sampled.{SampledLinesLaw}
use Rattle.sp_headline.proofs.Checked.{check_verdict}

-- ---- what is read is the tree of a text

module _ {T : Type 0} (grammar : Grammar T) (name text : List ℕ) where
  answer_tree : (answer : Result (Reading T) TextFault) (x : Reading T) → Read grammar text answer → IsNamed name answer (Ok x) → IsTree grammar x.tree
  answer_tree (Ok y) x h e =
      let same : x ≡ y = cc in
      (text, subst (λ (z : Reading T). Read grammar text (Ok z)) (sym same) h)
  answer_tree (Err (fault.Malformed m)) x h e = absurd cc
  answer_tree (Err (fault.Limit l)) x h e = absurd cc
  answer_tree (Err fault.Memory) x h e = absurd e

  tree_by : (t : T) (first : Result (Reading T) Refusal) → Judged name (Read grammar text) first → Onward (λ x. λ out. out ≡ Ok x.tree) first (Ok t) → IsTree grammar t
  tree_by t (Err r) h e = absurd cc
  tree_by t (Ok x) h e =
      let same : t ≡ x.tree = cc in
      subst (IsTree grammar) (sym same) (answer_tree h.0 x h.1 h.2)

  text_tree : (t : T) → TextRead grammar name text (Ok t) → IsTree grammar t
  text_tree t h = tree_by t h.0 h.1 h.2

abbrev pub AreTrees : System → Type 0
AreTrees x = IsTree interfaces x.interface × All (IsTree modules) x.modules

module _ (n : ℕ) (x : System) where
  instance_by : (i : InterfaceTree) (m : Module) → IsTree interfaces i → IsTree modules m → (third : Result InstanceTree Refusal)
      → Onward (λ s end. end ≡ Ok (record { interface = i; modules = m ∷ []; sample = s })) third (Ok x) → AreTrees x
  instance_by i m a b (Err r) e = absurd cc
  instance_by i m a b (Ok s) e =
      let same : x ≡ record { interface = i; modules = m ∷ []; sample = s } = cc in
      subst AreTrees (sym same) (a, All-cons (IsTree modules) m [] b (All-nil (IsTree modules)))

  module_by : (i : InterfaceTree) → IsTree interfaces i → (second : Result Module Refusal) → TextRead modules module_file (sample_module n) second
      → Onward (λ m. λ out. (third : Result InstanceTree Refusal) × TextRead instances instance_file sample_instance third × Onward (λ s end. end ≡ Ok (record { interface = i; modules = m ∷ []; sample = s })) third out) second (Ok x) → AreTrees x
  module_by i a (Err r) h e = absurd cc
  module_by i a (Ok m) h e = instance_by i m a (text_tree modules module_file (sample_module n) m h) e.0 e.2

  interface_by : (first : Result InterfaceTree Refusal) → TextRead interfaces interface_file (sample_interface n) first
      → Onward (λ i. λ out. (second : Result Module Refusal) × TextRead modules module_file (sample_module n) second × Onward (λ m. λ last. (third : Result InstanceTree Refusal) × TextRead instances instance_file sample_instance third × Onward (λ s end. end ≡ Ok (record { interface = i; modules = m ∷ []; sample = s })) third last) second out) first (Ok x) → AreTrees x
  interface_by (Err r) h e = absurd cc
  interface_by (Ok i) h e = module_by i (text_tree interfaces interface_file (sample_interface n) i h) e.0 e.1 e.2

  pub are_trees : SampleRead n (Ok x) → AreTrees x
  unfolding SampleRead
  are_trees h = interface_by h.0 h.1 h.2

  sample_names : (e : Elaborated) → SampleRead n (Ok x) → SystemJudged interface_file x (Ok e) → HasPlainNames e.spec
  sample_names e read j =
      let trees = are_trees read in
      plain_names x.interface x.modules e.spec trees.0 trees.1 (judged_by interface_file x e j.0 j.1 j.2).meant.meant

-- ---- the answer

module _ (n : ℕ) (bytes : List ℕ) (v : Verdict) where
  module _ (p : Parts) (names : HasPlainNames p) where
    text_verdict : (os : List Formula) (ds : List Decision) → os ≡ formulas p → (k : ℕ) → k ≡ open_count ds → HoldsAccepted (sample_text n p os ds k) → verdict_by k ≡ verdict.Ok
    text_verdict os ds is zero e h = refl
    text_verdict os ds is (suc k) e h = ap verdict_by e ∙ check_verdict p names os ds is h

    by_decisions : (os : List Formula) → os ≡ formulas p → (second : Result (List Decision) Refusal) → AllDecided None p 1 os second
        → Onward (λ ds out. out ≡ Ok (sample_answer n p os ds)) second (Ok (printed bytes v)) → HoldsAccepted bytes → v ≡ verdict.Ok
    by_decisions os is (Err r) h e line = absurd cc
    by_decisions os is (Ok ds) h e line =
        let same : printed bytes v ≡ sample_answer n p os ds = cc in
        let text : bytes ≡ sample_text n p os ds (open_count ds) = cc in
        ap verdict_of same ∙ text_verdict os ds is (open_count ds) refl (subst HoldsAccepted text line)

    by_formulas : (first : Result (List Formula) Refusal) → FormulasListed None p first
        → Onward (λ os. λ out. (second : Result (List Decision) Refusal) × AllDecided None p 1 os second × Onward (λ ds last. last ≡ Ok (sample_answer n p os ds)) second out) first (Ok (printed bytes v)) → HoldsAccepted bytes → v ≡ verdict.Ok
    by_formulas (Err r) h e line = absurd cc
    by_formulas (Ok os) h e line = by_decisions os (listing_is None (formulas p) os (first_fault p 1 (formulas p)) h) e.0 e.1 e.2 line

  by_spec : (x : System) → SampleRead n (Ok x) → (second : Result Elaborated Refusal) → SystemJudged interface_file x second
      → Onward (λ e. SampleAnswered n e.spec) second (Ok (printed bytes v)) → HoldsAccepted bytes → v ≡ verdict.Ok
  by_spec x read (Err r) j h line = absurd cc
  by_spec x read (Ok e) j h line = by_formulas e.spec (sample_names n x e read j) h.0 h.1 h.2 line

  by_system : (first : Result System Refusal) → SampleRead n first → Onward (SampleWork n) first (Ok (printed bytes v)) → HoldsAccepted bytes → v ≡ verdict.Ok
  by_system (Err r) read h line = absurd cc
  by_system (Ok x) read h line = by_spec x read h.0 h.1 h.2 line

  verdict_ok : SampleDone n (Ok (printed bytes v)) → HoldsAccepted bytes → v ≡ verdict.Ok
  unfolding SampleDone
  verdict_ok h line = by_system h.0 h.1 h.2 line

pub sampled_lines : SampledAreSecure → SampledLinesLaw
sampled_lines secure n bytes v h line =
    secure n bytes (subst (λ (w : Verdict). SampleDone n (Ok (printed bytes w))) (verdict_ok n bytes v h line) h)
