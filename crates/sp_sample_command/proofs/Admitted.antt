-- The work of `sample` never ends in an assertion that is false, since there is none.
use Rattle.std.proofs.Common.{◌≡◌, ◌∙◌, ◌≤◌, ℕ, ◌+◌, List, [], ◌∷◌, ◌++◌, Option, None, Some, Result, Ok, Err, ap, arith, inl, inr, length, map, refl, slice_get, subst, sym}
use Rattle.sp_text.specs.declared.fault.Malformed.{Malformed}
use Rattle.sp_text.specs.declared.fault.SpecFault.{SpecFault}
use Rattle.sp_text.specs.declared.fault.TextFault.{TextFault}
use Rattle.sp_text.specs.declared.fault.TextFault.TheVariants as fault
use Rattle.sp_text.specs.declared.token.Token.{Token}
use Rattle.sp_tree.specs.declared.expr.ExprTree.{ExprTree}
use Rattle.sp_tree.specs.declared.interface.InterfaceTree.{InterfaceTree}
use Rattle.sp_tree.specs.declared.interface.LatticeTree.{LatticeTree}
use Rattle.sp_tree.specs.declared.module.Module.{Module}
use Rattle.sp_core.specs.Instances.{InstanceParts, filling_of}
use Rattle.sp_core.specs.Parts.{Parts}
use Rattle.sp_core.specs.declared.function.Assertion.{Assertion}
use Rattle.sp_scopes.specs.declared.scopes.Scopes.{Scopes}
use Rattle.sp_judge.specs.Visible.{Visible}
use Rattle.sp_grammar.specs.Texts.{IsRead}
use Rattle.sp_lexer.specs.Tokens.{IsTokens}
use Rattle.sp_parser.specs.Modules.{module_line}
use Rattle.sp_specification.specs.Meaning.{AreAssertions, assertion_texts}
use Rattle.sp_formulas.specs.Formulas.{Formula, formulas}
use Rattle.sp_formulas.specs.Limits.{first_fault}
use Rattle.sp_formulas.specs.declared.fault.FormulaFault.{FormulaFault}
use Rattle.sp_formulas.specs.declared.fault.FormulaFault.TheVariants as limit
use Rattle.sp_frame.specs.declared.refusal.Refusal.{Refusal}
use Rattle.sp_frame.specs.declared.refusal.Refusal.TheVariants as refusal
use Rattle.sp_frame.specs.Steps.{Demand, IsNamed, Judged, Onward, Step, Then}
use Rattle.sp_formula_list.specs.Listed.{FormulasListed, IsLimited, IsListing}
use Rattle.sp_deciding.specs.Decided.{AllDecided, FormulaDecided}
use Rattle.sp_sample.specs.Module.{sample_module}
use Rattle.sp_sorts.specs.Sorts.{instances, interfaces, modules}
use Rattle.sp_sorts.specs.Texts.{Answered, Grammar, Lexed, Read}
use Rattle.sp_sorts.specs.declared.reading.Reading.{Reading}
use Rattle.sp_system.specs.Instances.{Admitted, InstanceJudged}
use Rattle.sp_system.specs.Interfaces.{InterfaceJudged, IsFaulty, IsFiled, broken_at, file_of, level_pair}
use Rattle.sp_system.specs.System.{SampleJudged, SystemJudged, sample_file}
use Rattle.sp_system.specs.declared.interface.Elaborated.{Elaborated}
use Rattle.sp_system.specs.declared.system.System.{System}
use Rattle.sp_check_command.proofs.Accepted.{meant_by}
use Rattle.sp_sample_command.specs.Sample.{SampleAnswered, SampleDone, SampleWork}
use Rattle.sp_sample_command.specs.Texts.{SampleRead, TextRead, interface_file, module_file}
use Rattle.sp_sample_command.proofs.Unasserted.{unasserted}

-- ---- what the module's text reads as

by_tree : (text : List ℕ) (ts : List Token) (r : Reading Module) (second : Result Module TextFault) → Answered (modules ts (length text)) second
    → Onward (λ tree. λ (out : Result (Reading Module) TextFault). out ≡ Ok (record { tree = tree })) second (Ok r) → IsRead (module_line ts) ts r.tree
by_tree text ts r (Err f) a e = absurd cc
by_tree text ts r (Ok tree) a e =
    let same : r ≡ record { tree = tree } = cc in
    subst (λ (y : Reading Module). IsRead (module_line ts) ts y.tree) (sym same) a

by_tokens : (text : List ℕ) (r : Reading Module) (first : Result (List Token) TextFault) → Lexed text first
    → Onward (λ ts. Then (Answered (modules ts (length text))) (λ tree. λ (out : Result (Reading Module) TextFault). out ≡ Ok (record { tree = tree }))) first (Ok r)
    → (ts : List Token) × IsTokens text ts × IsRead (module_line ts) ts r.tree
by_tokens text r (Err f) l e = absurd cc
by_tokens text r (Ok ts) l e = (ts, l, by_tree text ts r e.0 e.1 e.2)

module _ (n : ℕ) (few : n ≤ 1000) where
  by_reading : (r : Reading Module) (answer : Result (Reading Module) TextFault) → Read modules (sample_module n) answer → IsNamed module_file answer (Ok r) → r.tree.assertions ≡ []
  by_reading r (Ok s) h e =
      let same : r ≡ s = cc in
      let read = by_tokens (sample_module n) s h.0 h.1 h.2 in
      ap (λ (y : Reading Module). y.tree.assertions) same ∙ unasserted n few read.0 s.tree read.1 read.2
  by_reading r (Err (fault.Malformed m)) h e = absurd cc
  by_reading r (Err (fault.Limit l)) h e = absurd cc
  by_reading r (Err fault.Memory) h e = absurd e

  by_module : (m : Module) (first : Result (Reading Module) Refusal) → Judged module_file (Read modules (sample_module n)) first
      → Onward (λ x. λ (out : Result Module Refusal). out ≡ Ok x.tree) first (Ok m) → m.assertions ≡ []
  by_module m (Err r) j e = absurd cc
  by_module m (Ok r) j e = let same : m ≡ r.tree = cc in ap (λ (y : Module). y.assertions) same ∙ by_reading r j.0 j.1 j.2

  -- the system has no assertions
  no_texts : (x : System) → SampleRead n (Ok x) → assertion_texts x.modules ≡ []
  unfolding SampleRead
  no_texts x (Err r, ri, e) = absurd cc
  no_texts x (Ok i, ri, (Err r, rm, e)) = absurd cc
  no_texts x (Ok i, ri, (Ok m, rm, (Err r, rs, e))) = absurd cc
  no_texts x (Ok i, ri, (Ok m, rm, (Ok s, rs, e))) =
      let same : x ≡ record { interface = i; modules = m ∷ []; sample = s } = cc in
      let none : m.assertions ≡ [] = by_module m rm.0 rm.1 rm.2 in
      ap (λ (y : System). assertion_texts y.modules) same ∙ ap (λ (es : List ExprTree). map (λ e. (0, e)) es ++ []) none

-- ---- no step ends so

none_meant : (see : ℕ → Visible) (ts : List (ℕ × ExprTree)) (as' : List Assertion) → ts ≡ [] → AreAssertions see ts as' → as' ≡ []
none_meant see [] [] e h = refl
none_meant see [] (a ∷ as') e h = absurd h
none_meant see (t ∷ ts) as' e h = absurd cc

module _ (file : List ℕ) (k : ℕ) where
  abbrev false_assertion : Refusal
  false_assertion = refusal.NotAdmissible file k

  then_never : {T U : Type 0} (step : Step T) (next : T → Step U) → (step (Err false_assertion) → ⊥) → ((x : T) → step (Ok x) → next x (Err false_assertion) → ⊥)
      → Then step next (Err false_assertion) → ⊥
  then_never step next first more (Ok x, h, e) = more x h e
  then_never step next first more (Err r, h, e) = let same : r ≡ false_assertion = cc in first (subst (λ q. step (Err q)) same h)

  gives_never : {T : Type 0} (x : T) → ◌≡◌ {A = Result T Refusal} (Err false_assertion) (Ok x) → ⊥
  gives_never x e = cc

  named_never : {T : Type 0} (name : List ℕ) (answer : Result T TextFault) → IsNamed name answer (Err false_assertion) → ⊥
  named_never name (Ok x) e = cc
  named_never name (Err (fault.Malformed m)) e = cc
  named_never name (Err (fault.Limit l)) e = cc
  named_never name (Err fault.Memory) e = e

  judged_never : {T : Type 0} (name : List ℕ) (answers : Result T TextFault → Type 0) → Judged name answers (Err false_assertion) → ⊥
  judged_never name answers j = named_never name j.0 j.2

  text_never : {T : Type 0} (grammar : Grammar T) (name text : List ℕ) → TextRead grammar name text (Err false_assertion) → ⊥
  text_never grammar name text h = then_never _ _ (judged_never name (Read grammar text)) (λ x _. gives_never x.tree) h

  read_never : (n : ℕ) → SampleRead n (Err false_assertion) → ⊥
  unfolding SampleRead
  read_never n h =
      then_never _ _ (text_never interfaces _ _) (λ i _.
      then_never _ _ (text_never modules _ _) (λ m _.
      then_never _ _ (text_never instances _ _) (λ s _. gives_never (record { interface = i; modules = m ∷ []; sample = s })))) h

  broken_never : (l : LatticeTree) (name : List ℕ) (m : Malformed) (o : Option (ℕ × ℕ)) → false_assertion ≡ broken_at l name m o → ⊥
  broken_never l name m None e = cc
  broken_never l name m (Some p) e = cc

  faulty_never : (i : InterfaceTree) (name : List ℕ) (t : TextFault) → IsFaulty i name t (Err false_assertion) → ⊥
  faulty_never i name (fault.Malformed m) e = broken_never i.lattice name m (level_pair m.rule) cc
  faulty_never i name (fault.Limit l) e = cc
  faulty_never i name fault.Memory e = e

  filed_never : (name : List ℕ) (i : InterfaceTree) (answer : Result (Parts × Scopes) SpecFault) → IsFiled name i answer (Err false_assertion) → ⊥
  filed_never name i (Ok r) e = cc
  filed_never name i (Err f) e = faulty_never i (file_of name i f.file) f.fault e

  demand_never : (rule : Type 0) (r : Refusal) → (false_assertion ≡ r → ⊥) → Demand rule r (Err false_assertion) → ⊥
  demand_never rule r not (inl h) = gives_never tt h.1
  demand_never rule r not (inr h) = not cc

  admitted_never : (p : Parts) (name : List ℕ) (i : InstanceParts) → p.assertions ≡ [] → Admitted p name i (Err false_assertion) → ⊥
  admitted_never p name i none (inl h) = gives_never tt h.1
  admitted_never p name i none (inr (n, (j, a, f), e)) =
      let found : None ≡ Some a = sym (ap (λ as'. slice_get as' j) none) ∙ f.there in
      cc

  sample_never : (p : Parts) (x : System) → p.assertions ≡ [] → SampleJudged p x (Err false_assertion) → ⊥
  sample_never p x none h =
      then_never _ _ (demand_never _ _ (λ e. cc)) (λ _ _.
      then_never _ _ (judged_never (sample_file x) _) (λ i _.
      then_never _ _ (admitted_never p (sample_file x) i none) (λ _ _. gives_never i))) h

  system_never : (x : System) → assertion_texts x.modules ≡ [] → SystemJudged interface_file x (Err false_assertion) → ⊥
  system_never x none h =
      then_never (InterfaceJudged interface_file x.interface x.modules) (λ e. Then (SampleJudged e.spec x) (λ _. λ out. out ≡ Ok e)) (λ j. filed_never interface_file x.interface j.0 j.2)
      (λ e j. then_never (SampleJudged e.spec x) (λ _. λ out. out ≡ Ok e)
      (sample_never e.spec x (none_meant _ (assertion_texts x.modules) e.spec.assertions none (meant_by interface_file x e j.0 j.1 j.2).meant.meant.assertions)) (λ _ _. gives_never e)) h

  limited_never : (os : List Formula) (f : FormulaFault) → IsLimited {T = List Formula} None f (Err false_assertion) → ⊥
  limited_never os limit.TooManyFormulas e = cc
  limited_never os (limit.TooManyInstances n) e = cc
  limited_never os (limit.TooManyNodes n) e = cc
  limited_never os (limit.TooManyTerms n) e = cc
  limited_never os limit.Memory e = e

  listing_never : (os : List Formula) (o : Option FormulaFault) → IsListing None os o (Err false_assertion) → ⊥
  listing_never os None e = gives_never os e
  listing_never os (Some f) e = limited_never os f e

  all_never : (p : Parts) (n : ℕ) (os : List Formula) → AllDecided None p n os (Err false_assertion) → ⊥
  all_never p n [] e = gives_never [] e
  all_never p n (o ∷ os) h =
      then_never (FormulaDecided None p n o) _ (λ d. let e = d.2 in cc) (λ d _.
      then_never (AllDecided None p (n + 1) os) _ (all_never p (n + 1) os) (λ ds _. gives_never (d ∷ ds))) h

  answered_never : (n : ℕ) (p : Parts) → SampleAnswered n p (Err false_assertion) → ⊥
  answered_never n p h =
      then_never (FormulasListed None p) _ (listing_never (formulas p) (first_fault p 1 (formulas p))) (λ os _.
      then_never (AllDecided None p 1 os) _ (all_never p 1 os) (λ ds _. gives_never _)) h

  pub sample_admissible : (n : ℕ) → n ≤ 1000 → SampleDone n (Err false_assertion) → ⊥
  unfolding SampleDone
  sample_admissible n few h =
      then_never (SampleRead n) (SampleWork n) (read_never n) (λ x read.
      then_never (SystemJudged interface_file x) (λ e. SampleAnswered n e.spec) (system_never x (no_texts n few x read)) (λ e _. answered_never n e.spec)) h
