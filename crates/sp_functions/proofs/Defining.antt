-- The loop over the definitions of an interface.
use Rattle.std.proofs.Common.{◌≡◌, sym, ◌∙◌, ap, subst, arith, ℕ, suc, ◌+◌, ◌≤◌, ◌<◌, List, [], ◌∷◌, ◌++◌, length, take, get_or, append_assoc}
use Rattle.std.specs.List.{All}
use Rattle.std.proofs.lemmas.List.{append-nil, length-take, take_more}
use Rattle.std.proofs.lemmas.List.Elements.{All-take}
use Rattle.sp_text.specs.declared.limits.TheConstants.{MOST_QUANTIFIERS}
use Rattle.sp_text.specs.Violations.{in_file}
use Rattle.sp_core.specs.declared.expr.Expr.{Expr}
use Rattle.sp_core.specs.Measures.{quantifiers}
use Rattle.sp_core.specs.Tree.{tree}
use Rattle.sp_naming.specs.Numbers.{counted}
use Rattle.sp_scopes.specs.declared.lent.Definition.{Definition}
use Rattle.sp_judge.specs.Translation.{AreFine}
use Rattle.sp_judge.specs.Visible.{Visible}
use Rattle.sp_definitions.specs.Definitions.{HasRoom}
use Rattle.sp_functions.specs.DefinitionTexts.{definition_broken, definitions_broken}

pub room_at : (ds : List Definition) (k : ℕ) (d : Definition) → All HasRoom ds → k < length ds → d ≡ get_or ds k d → HasRoom d
room_at ds k d h l i = subst HasRoom (sym i) (h k d l)

pub fine_front : (k : ℕ) (cores : List Expr) → AreFine cores → AreFine (take k cores)
fine_front k cores h = All-take (λ e. quantifiers (tree e) ≤ MOST_QUANTIFIERS) k cores h

module _ (s : Visible) where
  more : (n : ℕ) (ds : List Definition) (d : Definition) →
      definitions_broken s n ds ++ in_file (counted 1 d.module_number) (definition_broken s (n + length ds) d) ≡ definitions_broken s n (ds ++ d ∷ [])
  more n [] d =
      let z : n + 0 ≡ n = omega arith in
      ap (λ m. in_file (counted 1 d.module_number) (definition_broken s m d)) z ∙ sym (append-nil (in_file (counted 1 d.module_number) (definition_broken s n d)))
  more n (x ∷ ds) d =
      let here = in_file (counted 1 x.module_number) (definition_broken s n x) in
      let z : n + suc (length ds) ≡ (n + 1) + length ds = omega arith in
      append_assoc here (definitions_broken s (n + 1) ds) (in_file (counted 1 d.module_number) (definition_broken s (n + length (x ∷ ds)) d))
      ∙ ap (λ zs. here ++ zs) (ap (λ m. definitions_broken s (n + 1) ds ++ in_file (counted 1 d.module_number) (definition_broken s m d)) z ∙ more (n + 1) ds d)

  pub definitions_next : (ds : List Definition) (i k : ℕ) (d : Definition) → i < length ds → d ≡ get_or ds i d → k ≡ i →
      definitions_broken s 0 (take i ds) ++ in_file (counted 1 d.module_number) (definition_broken s k d) ≡ definitions_broken s 0 (take (i + 1) ds)
  definitions_next ds i k d l at same =
      let m : k ≡ 0 + length (take i ds) = omega (arith, length-take i ds, l, same) in
      ap (λ z. definitions_broken s 0 (take i ds) ++ in_file (counted 1 d.module_number) (definition_broken s z d)) m
      ∙ more 0 (take i ds) d ∙ ap (definitions_broken s 0) (sym (take_more ds i d l ∙ ap (λ z. take i ds ++ z ∷ []) (sym at)))
