-- The refusals of steps tell names without line feeds, where the names that the steps are given hold none. One lemma for each connective, then one
-- for each step.
use Rattle.std.proofs.Common.{◌≡◌, ℕ, zero, suc, ◌+◌, Bool, true, false, nat_le, if◌then◌else◌, List, [], ◌∷◌, Option, None, Some, Result, Ok, Err, codes, inl, inr, length, refl, slice_get, subst, sym}
use Rattle.std.specs.List.{All}
use Rattle.std.proofs.lemmas.List.Elements.{All-head, All-tail, All-weaker}
use Rattle.sp_text.specs.declared.fault.Malformed.{Malformed}
use Rattle.sp_text.specs.declared.fault.Quantity.{Quantity}
use Rattle.sp_text.specs.declared.fault.Quantity.TheVariants as quantity
use Rattle.sp_text.specs.declared.fault.SpecFault.{SpecFault}
use Rattle.sp_text.specs.declared.fault.TextFault.{TextFault}
use Rattle.sp_text.specs.declared.fault.TextFault.TheVariants as fault
use Rattle.sp_outside.specs.Files.{Files, first_file}
use Rattle.sp_tree.specs.declared.instance.InstanceTree.{InstanceTree}
use Rattle.sp_tree.specs.declared.interface.InterfaceTree.{InterfaceTree}
use Rattle.sp_tree.specs.declared.interface.LatticeTree.{LatticeTree}
use Rattle.sp_tree.specs.declared.interface.LatticeTree.TheVariants as lattice
use Rattle.sp_tree.specs.declared.module.Module.{Module}
use Rattle.sp_tree.specs.declared.names.Ident.{Ident}
use Rattle.sp_scopes.specs.declared.scopes.Scopes.{Scopes}
use Rattle.sp_core.specs.Instances.{InstanceParts}
use Rattle.sp_core.specs.Parts.{Parts}
use Rattle.sp_formulas.specs.Formulas.{Formula, formulas}
use Rattle.sp_formulas.specs.Limits.{first_fault}
use Rattle.sp_formulas.specs.declared.fault.FormulaFault.{FormulaFault}
use Rattle.sp_formulas.specs.declared.fault.FormulaFault.TheVariants as formula_fault
use Rattle.sp_frame.specs.declared.refusal.Refusal.{Refusal}
use Rattle.sp_frame.specs.declared.refusal.Refusal.TheVariants as refusal
use Rattle.sp_frame.specs.declared.refusal.WorkPlace.{WorkPlace}
use Rattle.sp_frame.specs.declared.refusal.WorkPlace.TheVariants as work_place
use Rattle.sp_frame.specs.Files.{FileRead, Loaded, Sort, text_found}
use Rattle.sp_frame.specs.Steps.{Demand, Each, Gives, IsNamed, Judged, Onward, Step, Then}
use Rattle.sp_formula_list.specs.Listed.{FormulasListed, IsLimited, IsListing, exceeded}
use Rattle.sp_deciding.specs.Decided.{AllDecided, FormulaDecided}
use Rattle.sp_sorts.specs.Sorts.{instance_file, instances, interfaces, module_file, modules}
use Rattle.sp_sorts.specs.Texts.{Grammar, TreeRead, text_sort}
use Rattle.sp_system.specs.Instances.{Admitted, InstanceJudged}
use Rattle.sp_system.specs.Interfaces.{InterfaceJudged, IsFaulty, IsFiled, broken_at, file_of, level_name, level_pair, module_of, name_if}
use Rattle.sp_system.specs.System.{ModuleRead, ModulesRead, SampleJudged, SystemJudged, SystemRead, sample_file}
use Rattle.sp_system.specs.declared.system.System.{System}
use Rattle.sp_plain_names.proofs.Systems.{read_tree, system_read}
use Rattle.sp_plain_names.proofs.Trees.{IsPlainIdent, IsPlainInterface, IsPlainLattice, interface_plain}
use Rattle.sp_headline.specs.Refused.{HasNamesInLine, IsInLine, IsOwnerInLine, RefusesInLine}
use Rattle.sp_headline.proofs.Expressions.{plain_free}
use Rattle.sp_headline.proofs.Texts.{Free, free_append}

-- ---- connectives

pub gives_in_line : {T : Type 0} (x : T) → RefusesInLine (Gives x)
gives_in_line x r e = absurd cc

module _ {T U : Type 0} (step : Step T) (next : T → Step U) (first : RefusesInLine step) (rest : (x : T) → step (Ok x) → RefusesInLine (next x)) where
  onward_in_line : (f : Result T Refusal) (r : Refusal) → step f → Onward next f (Err r) → HasNamesInLine r
  onward_in_line (Ok x) r s p = rest x s r p
  onward_in_line (Err e) r s p = let same : r ≡ e = cc in subst HasNamesInLine (sym same) (first e s)

  pub then_in_line : RefusesInLine (Then step next)
  then_in_line r p = onward_in_line p.0 r p.1 p.2

pub each_in_line : {X T : Type 0} (step : X → Step T) (xs : List X) → All (λ x. RefusesInLine (step x)) xs → RefusesInLine (Each step xs)
each_in_line step [] h = gives_in_line []
each_in_line step (x ∷ xs) h =
    then_in_line (step x) (λ y. Then (Each step xs) (λ ys. Gives (y ∷ ys))) (All-head (λ x. RefusesInLine (step x)) x xs h) (λ y _.
    then_in_line (Each step xs) (λ ys. Gives (y ∷ ys)) (each_in_line step xs (All-tail (λ x. RefusesInLine (step x)) x xs h)) (λ ys _.
    gives_in_line (y ∷ ys)))

pub demand_in_line : (rule : Type 0) (r : Refusal) → HasNamesInLine r → RefusesInLine (Demand rule r)
demand_in_line rule r h s (inl p) = absurd cc
demand_in_line rule r h s (inr p) = let same : s ≡ r = cc in subst HasNamesInLine (sym same) h

-- ---- texts

module _ (name : List ℕ) (free : IsInLine name) where
  named_in_line : {T : Type 0} (answer : Result T TextFault) (r : Refusal) → IsNamed name answer (Err r) → HasNamesInLine r
  named_in_line (Ok x) r p = absurd cc
  named_in_line (Err (fault.Malformed m)) r p = let same : r ≡ refusal.Broken name m = cc in subst HasNamesInLine (sym same) free
  named_in_line (Err (fault.Limit l)) r p = let same : r ≡ refusal.Exceeded name l = cc in subst HasNamesInLine (sym same) free
  named_in_line (Err fault.Memory) r p = absurd p

  pub judged_in_line : {T : Type 0} (answers : Result T TextFault → Type 0) → RefusesInLine (Judged name answers)
  judged_in_line answers r p = named_in_line p.0 r p.2

  within_in_line : (most : ℕ) (text : List ℕ) (r : Refusal) (test : Bool) → Err r ≡ (if test then Ok text else Err (refusal.TooLong name most)) → HasNamesInLine r
  within_in_line most text r true e = absurd cc
  within_in_line most text r false e = let same : r ≡ refusal.TooLong name most = cc in subst HasNamesInLine (sym same) free

  found_in_line : (most : ℕ) (found : Option (List ℕ)) (r : Refusal) → Err r ≡ text_found name most found → HasNamesInLine r
  found_in_line most None r e = let same : r ≡ refusal.Missing name = cc in subst HasNamesInLine (sym same) free
  found_in_line most (Some text) r e = within_in_line most text r (nat_le (length text) most) e

  module _ (files : Files) where
    pub file_in_line : {T : Type 0} (sort : Sort T) → RefusesInLine (FileRead sort name files)
    file_in_line sort =
        then_in_line (Loaded name sort.most files) (λ text. Judged name (sort.reads text)) (λ r e. found_in_line sort.most (first_file name files) r e) (λ text _.
        judged_in_line (sort.reads text))

    pub tree_in_line : {T : Type 0} (grammar : Grammar T) → RefusesInLine (TreeRead grammar name files)
    tree_in_line grammar = then_in_line (FileRead (text_sort grammar) name files) (λ x. Gives x.tree) (file_in_line (text_sort grammar)) (λ x _. gives_in_line x.tree)

-- ---- a system is read

module_free : (m : Ident) → IsPlainIdent m → Free (module_file m.name)
module_free m h = free_append m.name (codes ".special") (plain_free m.name h) refl

instance_free : (s : Ident) → IsPlainIdent s → Free (instance_file s.name)
instance_free s h = free_append s.name (codes ".inst") (plain_free s.name h) refl

module _ (files : Files) where
  modules_in_line : (names : List Ident) → All IsPlainIdent names → RefusesInLine (ModulesRead names files)
  unfolding ModulesRead
  modules_in_line names h =
      each_in_line (λ m. ModuleRead m.name files) names
      (All-weaker IsPlainIdent (λ m. RefusesInLine (ModuleRead m.name files)) (λ m e. tree_in_line (module_file m.name) (module_free m e) files modules) names h)

  pub system_in_line : (interface : List ℕ) → IsInLine interface → RefusesInLine (SystemRead interface files)
  system_in_line interface free =
      then_in_line _ _ (tree_in_line interface free files interfaces) (λ i read.
      let plain = interface_plain i (read_tree interfaces interface files i read) in
      then_in_line _ _ (modules_in_line i.modules plain.modules) (λ ms _.
      then_in_line _ _ (tree_in_line (instance_file i.sample.name) (instance_free i.sample plain.sample) files instances) (λ s _.
      gives_in_line _)))

-- ---- and judged

module _ (file : List ℕ) (free : IsInLine file) where
  module _ (i : InterfaceTree) (plain : IsPlainInterface i) where
    name_free : (names : List Ident) (k : ℕ) → All IsPlainIdent names → Free (name_if (slice_get names k))
    name_free [] k h = refl
    name_free (n ∷ names) zero h = plain_free n.name (All-head IsPlainIdent n names h)
    name_free (n ∷ names) (suc k) h = name_free names k (All-tail IsPlainIdent n names h)

    level_free : (l : LatticeTree) (k : ℕ) → IsPlainLattice l → Free (level_name l k)
    level_free (lattice.Order p names chains) k h = name_free names k h
    level_free (lattice.Product p chain categories) k h = refl

    file_free : (ms : List Ident) (k : ℕ) → All IsPlainIdent ms → Free (module_of (slice_get ms k))
    file_free [] k h = refl
    file_free (m ∷ ms) zero h = module_free m (All-head IsPlainIdent m ms h)
    file_free (m ∷ ms) (suc k) h = file_free ms k (All-tail IsPlainIdent m ms h)

    text_free : (k : ℕ) → Free (file_of file i k)
    text_free zero = free
    text_free (suc k) = file_free i.modules k plain.modules

    module _ (name : List ℕ) (own : IsInLine name) where
      broken_in_line : (m : Malformed) (o : Option (ℕ × ℕ)) → HasNamesInLine (broken_at i.lattice name m o)
      broken_in_line m None = own
      broken_in_line m (Some p) = (own, level_free i.lattice p.0 plain.lattice, level_free i.lattice p.1 plain.lattice)

      faulty_in_line : (t : TextFault) (r : Refusal) → IsFaulty i name t (Err r) → HasNamesInLine r
      faulty_in_line (fault.Malformed m) r e =
          let same : r ≡ broken_at i.lattice name m (level_pair m.rule) = cc in
          subst HasNamesInLine (sym same) (broken_in_line m (level_pair m.rule))
      faulty_in_line (fault.Limit l) r e = let same : r ≡ refusal.Exceeded name l = cc in subst HasNamesInLine (sym same) own
      faulty_in_line fault.Memory r e = absurd e

    filed_in_line : (answer : Result (Parts × Scopes) SpecFault) (r : Refusal) → IsFiled file i answer (Err r) → HasNamesInLine r
    filed_in_line (Ok x) r e = absurd cc
    filed_in_line (Err f) r e = faulty_in_line (file_of file i f.file) (text_free f.file) f.fault r e

    pub interface_in_line : (ms : List Module) → RefusesInLine (InterfaceJudged file i ms)
    interface_in_line ms r p = filed_in_line p.0 r p.2

  admitted_in_line : (p : Parts) (i : InstanceParts) → RefusesInLine (Admitted p file i)
  admitted_in_line p i r (inl h) = absurd cc
  admitted_in_line p i r (inr h) = let same : r ≡ refusal.NotAdmissible file h.0 = cc in subst HasNamesInLine (sym same) free

  pub instance_in_line : (p : Parts) (t : InstanceTree) → RefusesInLine (InstanceJudged p file t)
  instance_in_line p t =
      then_in_line _ _ (judged_in_line file free _) (λ i _.
      then_in_line _ _ (admitted_in_line p i) (λ _ _.
      gives_in_line i))

sample_in_line : (p : Parts) (x : System) → Free (sample_file x) → RefusesInLine (SampleJudged p x)
sample_in_line p x free =
    then_in_line _ _ (demand_in_line _ _ free) (λ _ _.
    instance_in_line (sample_file x) free p x.sample)

pub judging_in_line : (file : List ℕ) (x : System) → IsInLine file → IsPlainInterface x.interface → RefusesInLine (SystemJudged file x)
judging_in_line file x free plain =
    then_in_line _ _ (interface_in_line file free x.interface plain x.modules) (λ e _.
    then_in_line _ _ (sample_in_line e.spec x (instance_free x.interface.sample plain.sample)) (λ _ _.
    gives_in_line e))

-- where it was read before
pub read_in_line : (files : Files) (file : List ℕ) (x : System) → IsInLine file → SystemRead file files (Ok x) → RefusesInLine (SystemJudged file x)
read_in_line files file x free read = judging_in_line file x free (interface_plain x.interface (system_read files file x read).interface)

-- ---- formulas are listed and decided

module _ (owner : Option (List ℕ)) (free : IsOwnerInLine owner) where
  exceeded_in_line : (q : Quantity) (place : WorkPlace) (found : Option ℕ) (r : Refusal) → r ≡ exceeded owner q place found → HasNamesInLine r
  exceeded_in_line q place found r e = subst HasNamesInLine (sym e) free

  limited_in_line : (T : Type 0) (f : FormulaFault) (r : Refusal) → IsLimited {T = T} owner f (Err r) → HasNamesInLine r
  limited_in_line T formula_fault.TooManyFormulas r e = exceeded_in_line quantity.Formulas work_place.Interface None r cc
  limited_in_line T (formula_fault.TooManyInstances n) r e = exceeded_in_line quantity.AssertionInstances (work_place.Formula n) None r cc
  limited_in_line T (formula_fault.TooManyNodes n) r e = exceeded_in_line quantity.FormulaNodes (work_place.Formula n) None r cc
  limited_in_line T (formula_fault.TooManyTerms n) r e = exceeded_in_line quantity.Terms (work_place.Formula n) None r cc
  limited_in_line T formula_fault.Memory r e = absurd e

  pub listing_in_line : {T : Type 0} (os : T) (o : Option FormulaFault) → RefusesInLine (IsListing owner os o)
  listing_in_line os None r e = absurd cc
  listing_in_line {T} os (Some f) r e = limited_in_line T f r e

  pub listed_in_line : (p : Parts) → RefusesInLine (FormulasListed owner p)
  listed_in_line p = listing_in_line (formulas p) (first_fault p 1 (formulas p))

  pub decided_in_line : (p : Parts) (n : ℕ) (os : List Formula) → RefusesInLine (AllDecided owner p n os)
  decided_in_line p n [] = gives_in_line []
  decided_in_line p n (o ∷ os) =
      then_in_line (FormulaDecided owner p n o) _ (λ r h. exceeded_in_line _ _ _ r h.2) (λ d _.
      then_in_line (AllDecided owner p (n + 1) os) _ (decided_in_line p (n + 1) os) (λ ds _.
      gives_in_line (d ∷ ds)))
