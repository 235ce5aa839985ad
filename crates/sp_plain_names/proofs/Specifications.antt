-- The names of a specification are those of the texts that it stands for.
use Rattle.std.proofs.Common.{◌≡◌, ℕ, zero, suc, List, [], ◌∷◌, Option, None, Some, map, refl, slice_get, sym, subst}
use Rattle.std.specs.List.{All}
use Rattle.std.proofs.lemmas.List.Elements.{All-nil, All-cons, All-head, All-tail}
use Rattle.sp_tree.specs.declared.interface.Equation.{Equation}
use Rattle.sp_tree.specs.declared.interface.InterfaceTree.{InterfaceTree}
use Rattle.sp_tree.specs.declared.module.FunDecl.{FunDecl}
use Rattle.sp_tree.specs.declared.module.Module.{Module}
use Rattle.sp_scopes.specs.declared.heads.Head.{Head}
use Rattle.sp_scopes.specs.declared.heads.Local.{Local}
use Rattle.sp_scopes.specs.declared.lent.DeclaredType.{DeclaredType}
use Rattle.sp_scopes.specs.declared.scopes.Scopes.{Scopes}
use Rattle.sp_scopes.specs.Scopes.{scopes_of}
use Rattle.sp_core.specs.declared.function.Function.{Function}
use Rattle.sp_core.specs.declared.function.Param.{Param}
use Rattle.sp_core.specs.declared.function.TypeInfo.{TypeInfo}
use Rattle.sp_core.specs.Parts.{Parts}
use Rattle.sp_core.specs.WellFormed.{members_of}
use Rattle.sp_judge.specs.Visible.{Visible, function_at}
use Rattle.sp_elaborate.specs.Views.{view}
use Rattle.sp_functions.specs.Assertions.{formal_of}
use Rattle.sp_specification.specs.Ends.{equation_of, whole_view}
use Rattle.sp_specification.specs.Meaning.{AreFunctions, IsLevelled, IsMeant, IsSpecOf, function_texts, param_of, type_info}
use Rattle.sp_sorts.specs.Sorts.{interfaces, modules}
use Rattle.sp_sorts.specs.Texts.{IsTree}
use Rattle.sp_plain_names.specs.Names.{HasPlainName, HasPlainNames, IsPlain}
use Rattle.sp_plain_names.proofs.Forms.{WhereSome}
use Rattle.sp_plain_names.proofs.Scopes.{ArePlainScopes, IsPlainDeclared, IsPlainHead, all_map, scopes_plain}
use Rattle.sp_plain_names.proofs.Trees.{IsPlainInterface, IsPlainModule, interface_plain, module_plain}

abbrev IsPlainFunctionOf : Function → Type 0
IsPlainFunctionOf f = IsPlain f.name × All HasPlainName f.formals

plain_of : (hs : List Head) (g : ℕ) (h : Head) → All IsPlainHead hs → slice_get hs g ≡ Some h → IsPlainHead h
plain_of [] g h all e = absurd cc
plain_of (x ∷ hs) zero h all e =
    let same : x ≡ h = cc in
    subst IsPlainHead same (All-head IsPlainHead x hs all)
plain_of (x ∷ hs) (suc g) h all e = plain_of hs g h (All-tail IsPlainHead x hs all) e

module _ (see : ℕ → Visible) (t : Visible) (qs : List Equation) (heads : All IsPlainHead t.names.functions) where
  function_plain : (s : Visible) (o : Option Head) (q : Option Equation) (x : FunDecl) (f : Function) → ((h : Head) → o ≡ Some h → IsPlainHead h) → IsLevelled s t o q x f → IsPlainFunctionOf f
  function_plain s None q x f plain h = absurd h
  function_plain s (Some d) None x f plain h = absurd h
  function_plain s (Some d) (Some q) x f plain h =
      let p = plain d refl in
      (subst IsPlain (sym h.name) p.0, subst (All HasPlainName) (sym h.formals) (all_map (λ (y : Local). IsPlain y.name) HasPlainName formal_of (λ y e. e) d.formals p.1))

  functions_plain : (g : ℕ) (xs : List (ℕ × FunDecl)) (fs : List Function) → AreFunctions see t qs g xs fs → All IsPlainFunctionOf fs
  functions_plain g [] [] h = All-nil IsPlainFunctionOf
  functions_plain g [] (f ∷ fs) h = absurd h
  functions_plain g (x ∷ xs) [] h = absurd h
  functions_plain g (x ∷ xs) (f ∷ fs) h =
      All-cons IsPlainFunctionOf f fs
      (function_plain (see x.0) (function_at t g) (equation_of t qs g) x.1 f (λ d e. plain_of t.names.functions g d heads e) h.0)
      (functions_plain (suc g) xs fs h.1)

members_plain : (d : DeclaredType) → IsPlainDeclared d → All IsPlain (members_of (type_info d))
members_plain d h = by d.members h.1
  where
    by : (o : Option (List (List ℕ))) → WhereSome (All IsPlain) o → All IsPlain (members_of (record { name = d.name; members = o }))
    by None e = All-nil IsPlain
    by (Some names) e = e

modules_plain : (ms : List Module) → All (IsTree modules) ms → All IsPlainModule ms
modules_plain [] h = All-nil IsPlainModule
modules_plain (m ∷ ms) h =
    All-cons IsPlainModule m ms (module_plain m (All-head (IsTree modules) m ms h)) (modules_plain ms (All-tail (IsTree modules) m ms h))

module _ (i : InterfaceTree) (ms : List Module) (p : Parts) (plain : IsPlainInterface i) (scopes : ArePlainScopes (scopes_of i ms)) where
  meant_plain : (bottom top : ℕ) → IsMeant (scopes_of i ms) bottom top i ms p → HasPlainNames p
  meant_plain bottom top m =
      let functions = functions_plain (λ k. view (scopes_of i ms) k bottom top) (whole_view (scopes_of i ms) bottom top) i.levels scopes.functions 0 (function_texts ms) p.functions m.functions in
      record {
        name = subst IsPlain (sym m.name) plain.name;
        levels = subst (All IsPlain) (sym m.level_names) scopes.levels;
        types = subst (All (λ (t : TypeInfo). IsPlain t.name)) (sym m.types) (all_map IsPlainDeclared (λ (t : TypeInfo). IsPlain t.name) type_info (λ d h. h.0) (scopes_of i ms).types scopes.types);
        members = subst (All (λ (t : TypeInfo). All IsPlain (members_of t))) (sym m.types) (all_map IsPlainDeclared (λ (t : TypeInfo). All IsPlain (members_of t)) type_info members_plain (scopes_of i ms).types scopes.types);
        params = subst (All (λ (q : Param). IsPlain q.name)) (sym m.params) (all_map IsPlainHead (λ (q : Param). IsPlain q.name) param_of (λ d h. h.0) (scopes_of i ms).parameters scopes.parameters);
        functions = all_weaker IsPlainFunctionOf (λ f. IsPlain f.name) (λ f h. h.0) p.functions functions;
        formals = all_weaker IsPlainFunctionOf (λ f. All HasPlainName f.formals) (λ f h. h.1) p.functions functions;
      }
    where
      all_weaker : {A : Type 0} (P Q : A → Type 0) → ((x : A) → P x → Q x) → (xs : List A) → All P xs → All Q xs
      all_weaker P Q keeps [] h = All-nil Q
      all_weaker P Q keeps (x ∷ xs) h = All-cons Q x xs (keeps x (All-head P x xs h)) (all_weaker P Q keeps xs (All-tail P x xs h))

pub plain_names : (i : InterfaceTree) (ms : List Module) (p : Parts) → IsTree interfaces i → All (IsTree modules) ms → IsSpecOf i ms p → HasPlainNames p
plain_names i ms p read all s =
    let plain = interface_plain i read in
    meant_plain i ms p plain (scopes_plain i ms plain (modules_plain ms all)) s.bottom s.top s.meant
