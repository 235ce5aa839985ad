-- So it is with the specification of a system that was read and judged.
use Rattle.std.proofs.Common.{◌≡◌, ℕ, List, [], ◌∷◌, Result, Ok, Err, ap, refl, sym, subst}
use Rattle.std.specs.List.{All}
use Rattle.std.proofs.lemmas.List.Elements.{All-nil, All-cons}
use Rattle.sp_text.specs.declared.fault.SpecFault.{SpecFault}
use Rattle.sp_text.specs.declared.fault.TextFault.{TextFault}
use Rattle.sp_text.specs.declared.fault.TextFault.TheVariants as fault
use Rattle.sp_outside.specs.Files.{Files}
use Rattle.sp_tree.specs.declared.instance.InstanceTree.{InstanceTree}
use Rattle.sp_tree.specs.declared.interface.InterfaceTree.{InterfaceTree}
use Rattle.sp_tree.specs.declared.module.Module.{Module}
use Rattle.sp_tree.specs.declared.names.Ident.{Ident}
use Rattle.sp_scopes.specs.declared.scopes.Scopes.{Scopes}
use Rattle.sp_core.specs.Instances.{InstanceParts}
use Rattle.sp_core.specs.Parts.{Parts}
use Rattle.sp_specification.specs.Meaning.{IsSpecOf}
use Rattle.sp_frame.specs.declared.refusal.Refusal.{Refusal}
use Rattle.sp_frame.specs.Files.{FileRead}
use Rattle.sp_frame.specs.Steps.{IsNamed, Judged, Onward}
use Rattle.sp_sorts.specs.declared.reading.Reading.{Reading}
use Rattle.sp_sorts.specs.Sorts.{instance_file, instances, interfaces, module_file, modules}
use Rattle.sp_sorts.specs.Texts.{Grammar, IsTree, Read, TreeRead, text_sort}
use Rattle.sp_system.specs.Interfaces.{Elaborates, InterfaceJudged, IsFaulty, IsFiled, file_of}
use Rattle.sp_system.specs.System.{ModuleRead, ModulesRead, SampleJudged, SystemJudged, SystemRead}
use Rattle.sp_system.specs.declared.interface.Elaborated.{Elaborated}
use Rattle.sp_system.specs.declared.system.System.{System}
use Rattle.sp_plain_names.specs.Names.{HasPlainNames}
use Rattle.sp_plain_names.proofs.Specifications.{plain_names}

-- ---- what is read is the tree of a text

module _ {T : Type 0} (grammar : Grammar T) (name : List ℕ) where
  answer_tree : (text : List ℕ) (answer : Result (Reading T) TextFault) (x : Reading T) → Read grammar text answer → IsNamed name answer (Ok x) → IsTree grammar x.tree
  answer_tree text (Ok y) x h e =
      let same : x ≡ y = cc in
      (text, subst (λ (z : Reading T). Read grammar text (Ok z)) (sym same) h)
  answer_tree text (Err (fault.Malformed m)) x h e = absurd cc
  answer_tree text (Err (fault.Limit l)) x h e = absurd cc
  answer_tree text (Err fault.Memory) x h e = absurd e

  file_tree : (first : Result (List ℕ) Refusal) (x : Reading T) → Onward (λ text. Judged name (Read grammar text)) first (Ok x) → IsTree grammar x.tree
  file_tree (Err r) x h = absurd cc
  file_tree (Ok text) x h = answer_tree text h.0 x h.1 h.2

  tree_by : (files : Files) (t : T) (first : Result (Reading T) Refusal) → FileRead (text_sort grammar) name files first → Onward (λ x. λ out. out ≡ Ok x.tree) first (Ok t) → IsTree grammar t
  tree_by files t (Err r) h e = absurd cc
  tree_by files t (Ok x) h e =
      let same : t ≡ x.tree = cc in
      subst (IsTree grammar) (sym same) (file_tree h.0 x h.2)

  pub read_tree : (files : Files) (t : T) → TreeRead grammar name files (Ok t) → IsTree grammar t
  read_tree files t h = tree_by files t h.0 h.1 h.2

module _ (files : Files) where
  -- the first module, and then the others
  module _ (ms : List Module) (others : (List Module) → Type 0) (each : (ys : List Module) → others ys → All (IsTree modules) ys) where
    cons_read : (m : Module) → IsTree modules m → (second : Result (List Module) Refusal) → ((ys : List Module) → second ≡ Ok ys → others ys) → Onward (λ ys out. out ≡ Ok (m ∷ ys)) second (Ok ms) → All (IsTree modules) ms
    cons_read m one (Err r) k e = absurd cc
    cons_read m one (Ok ys) k e =
        let same : ms ≡ m ∷ ys = cc in
        subst (All (IsTree modules)) (sym same) (All-cons (IsTree modules) m ys one (each ys (k ys refl)))

  more_read : (x : Ident) (xs : List Ident) (ms : List Module) → ((ys : List Module) → ModulesRead xs files (Ok ys) → All (IsTree modules) ys) → (first : Result Module Refusal) → ModuleRead x.name files first
      → Onward (λ m. λ out. (second : Result (List Module) Refusal) × ModulesRead xs files second × Onward (λ ys end. end ≡ Ok (m ∷ ys)) second out) first (Ok ms) → All (IsTree modules) ms
  more_read x xs ms rest (Err r) one e = absurd cc
  more_read x xs ms rest (Ok m) one e =
      cons_read ms (λ ys. ModulesRead xs files (Ok ys)) rest m (read_tree modules (module_file x.name) files m one) e.0
      (λ ys is. subst (λ (r : Result (List Module) Refusal). ModulesRead xs files r) is e.1) e.2

  modules_read : (names : List Ident) (ms : List Module) → ModulesRead names files (Ok ms) → All (IsTree modules) ms
  unfolding ModulesRead
  modules_read [] ms h =
      let none : ms ≡ [] = cc in
      subst (All (IsTree modules)) (sym none) (All-nil (IsTree modules))
  modules_read (x ∷ xs) ms h = more_read x xs ms (λ ys k. modules_read xs ys k) h.0 h.1 h.2

  -- ---- a system

  pub record AreRead (x : System) : Type 0 where
    pub interface : IsTree interfaces x.interface
    pub modules : All (IsTree modules) x.modules

  module _ (interface : List ℕ) (x : System) where
    sample_by : (i : InterfaceTree) (ms : List Module) → IsTree interfaces i → All (IsTree modules) ms → (third : Result InstanceTree Refusal)
        → Onward (λ s out. out ≡ Ok (record { interface = i; modules = ms; sample = s })) third (Ok x) → AreRead x
    sample_by i ms h k (Err r) e = absurd cc
    sample_by i ms h k (Ok s) e =
        let same : x ≡ record { interface = i; modules = ms; sample = s } = cc in
        subst AreRead (sym same) (record { interface = h; modules = k })

    modules_by : (i : InterfaceTree) → IsTree interfaces i → (second : Result (List Module) Refusal) → ModulesRead i.modules files second
        → Onward (λ ms. λ out. (third : Result InstanceTree Refusal) × TreeRead instances (instance_file i.sample.name) files third × Onward (λ s end. end ≡ Ok (record { interface = i; modules = ms; sample = s })) third out) second (Ok x) → AreRead x
    modules_by i h (Err r) k e = absurd cc
    modules_by i h (Ok ms) k e = sample_by i ms h (modules_read i.modules ms k) e.0 e.2

    interface_by : (first : Result InterfaceTree Refusal) → TreeRead interfaces interface files first
        → Onward (λ i. λ out. (second : Result (List Module) Refusal) × ModulesRead i.modules files second × Onward (λ ms. λ last. (third : Result InstanceTree Refusal) × TreeRead instances (instance_file i.sample.name) files third × Onward (λ s end. end ≡ Ok (record { interface = i; modules = ms; sample = s })) third last) second out) first (Ok x) → AreRead x
    interface_by (Err r) h e = absurd cc
    interface_by (Ok i) h e = modules_by i (read_tree interfaces interface files i h) e.0 e.1 e.2

    pub system_read : SystemRead interface files (Ok x) → AreRead x
    system_read h = interface_by h.0 h.1 h.2

-- ---- what the system stands for

module _ (file : List ℕ) (x : System) where
  never_faulty : (name : List ℕ) (t : TextFault) (e : Elaborated) → IsFaulty x.interface name t (Ok e) → ⊥
  never_faulty name (fault.Malformed m) e h = absurd cc
  never_faulty name (fault.Limit l) e h = absurd cc
  never_faulty name fault.Memory e h = h

  meant_by : (e : Elaborated) (answer : Result (Parts × Scopes) SpecFault) → Elaborates x.interface x.modules answer → IsFiled file x.interface answer (Ok e) → IsSpecOf x.interface x.modules e.spec
  meant_by e (Ok r) h f =
      let same : e ≡ record { spec = r.0; scopes = r.1 } = cc in
      subst (IsSpecOf x.interface x.modules) (sym (ap (λ (y : Elaborated). y.spec) same)) h.judges.1.spec.meant
  meant_by e (Err g) h f = absurd (never_faulty (file_of file x.interface g.file) g.fault e f)

  judged_by : (e : Elaborated) (first : Result Elaborated Refusal) → InterfaceJudged file x.interface x.modules first
      → Onward (λ d. λ last. (second : Result InstanceParts Refusal) × SampleJudged d.spec x second × Onward (λ i. λ end. end ≡ Ok d) second last) first (Ok e) → IsSpecOf x.interface x.modules e.spec
  judged_by e (Err r) j h = absurd cc
  judged_by e (Ok d) j h = by h.0 h.2
    where
      by : (second : Result InstanceParts Refusal) → Onward (λ i. λ end. end ≡ Ok d) second (Ok e) → IsSpecOf x.interface x.modules e.spec
      by (Err r) k = absurd cc
      by (Ok i) k =
          let same : e ≡ d = cc in
          subst (λ (y : Elaborated). IsSpecOf x.interface x.modules y.spec) (sym same) (meant_by d j.0 j.1 j.2)

pub system_names : (files : Files) (interface : List ℕ) (x : System) (e : Elaborated) → SystemRead interface files (Ok x) → SystemJudged interface x (Ok e) → HasPlainNames e.spec
system_names files interface x e read judged =
    let texts = system_read files interface x read in
    plain_names x.interface x.modules e.spec texts.interface texts.modules (judged_by interface x e judged.0 judged.1 judged.2)
