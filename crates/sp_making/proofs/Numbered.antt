-- What a loop over texts tells of all of them.
use Rattle.std.proofs.Common.{◌≡◌, refl, ap, subst, arith, ℕ, zero, suc, ◌+◌, ◌<◌, ◌≤◌, List, [], ◌∷◌, length, take, get_or}
use Rattle.std.specs.List.{All}
use Rattle.std.proofs.lemmas.List.Elements.{All-more}
use Rattle.sp_tree.specs.declared.expr.ExprTree.{ExprTree}
use Rattle.sp_tree.specs.declared.interface.Equation.{Equation}
use Rattle.sp_tree.specs.declared.module.FunDecl.{FunDecl}
use Rattle.sp_tree.specs.declared.module.Module.{Module}
use Rattle.sp_tree.specs.declared.names.Ident.{Ident}
use Rattle.sp_plain.specs.Text.{text}
use Rattle.sp_scopes.specs.declared.lent.Definition.{Definition}
use Rattle.sp_typed.specs.Fits.{AreNumbers}
use Rattle.sp_functions.specs.Equations as equations
use Rattle.sp_functions.specs.Exceptions as exceptions
use Rattle.sp_functions.specs.Laws.{HaveNumbers}
use Rattle.sp_specification.specs.Numbers.{IsDefinitionNumbered, IsEquationNumbered, IsFunctionNumbered, IsModuleNumbered, IsNumbered}

next : {A : Type 0} (P : A → Type 0) (xs : List A) (k : ℕ) (x : A) → k < length xs → x ≡ get_or xs k x → All P (take k xs) → P x → All P (take (k + 1) xs)
next P xs k x l i h p = All-more P xs k x l h (subst P i p)

pub conditions_next : (n : ℕ) (xs : List (Ident × ExprTree)) (k : ℕ) (x : Ident × ExprTree) → k < length xs → x ≡ get_or xs k x →
    exceptions.HaveRoom n (take k xs) → exceptions.HasRoom n x → exceptions.HaveRoom n (take (k + 1) xs)
conditions_next n = next (exceptions.HasRoom n)

pub equations_next : (qs : List Equation) (k : ℕ) (q : Equation) → k < length qs → q ≡ get_or qs k q → All equations.HasRoom (take k qs) → equations.HasRoom q → All equations.HasRoom (take (k + 1) qs)
equations_next = next equations.HasRoom

pub conditions_told : (xs : List (Ident × ExprTree)) (k : ℕ) (x : Ident × ExprTree) → k < length xs → x ≡ get_or xs k x →
    HaveNumbers (take k xs) → AreNumbers (text x.1) → HaveNumbers (take (k + 1) xs)
conditions_told = next (λ (x : Ident × ExprTree). AreNumbers (text x.1))

pub functions_told : (xs : List FunDecl) (k : ℕ) (x : FunDecl) → k < length xs → x ≡ get_or xs k x → All IsFunctionNumbered (take k xs) → IsFunctionNumbered x → All IsFunctionNumbered (take (k + 1) xs)
functions_told = next IsFunctionNumbered

pub assertions_told : (es : List ExprTree) (k : ℕ) (e : ExprTree) → k < length es → e ≡ get_or es k e → All IsNumbered (take k es) → IsNumbered e → All IsNumbered (take (k + 1) es)
assertions_told = next IsNumbered

pub modules_told : (ms : List Module) (k : ℕ) (m : Module) → k < length ms → m ≡ get_or ms k m → All IsModuleNumbered (take k ms) → IsModuleNumbered m → All IsModuleNumbered (take (k + 1) ms)
modules_told = next IsModuleNumbered

pub definitions_told : (ds : List Definition) (k : ℕ) (d : Definition) → k < length ds → d ≡ get_or ds k d → All IsDefinitionNumbered (take k ds) → IsDefinitionNumbered d → All IsDefinitionNumbered (take (k + 1) ds)
definitions_told = next IsDefinitionNumbered

pub equations_told : (qs : List Equation) (k : ℕ) (q : Equation) → k < length qs → q ≡ get_or qs k q → All IsEquationNumbered (take k qs) → IsEquationNumbered q → All IsEquationNumbered (take (k + 1) qs)
equations_told = next IsEquationNumbered

take_past : {A : Type 0} (xs : List A) (n : ℕ) → length xs ≤ n → take n xs ≡ xs
take_past [] zero l = refl
take_past [] (suc n) l = refl
take_past (x ∷ xs) zero l = absurd (omega (arith, l))
take_past (x ∷ xs) (suc n) l = ap (λ ys. x ∷ ys) (take_past xs n (omega (arith, l)))

pub modules_all : (ms : List Module) (k : ℕ) → length ms ≤ k → All IsModuleNumbered (take k ms) → All IsModuleNumbered ms
modules_all ms k l h = subst (All IsModuleNumbered) (take_past ms k l) h
