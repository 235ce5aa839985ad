-- What an interface breaks stands before what its modules break.
use Rattle.std.proofs.Common.{◌≡◌, refl, sym, ◌∙◌, ap, arith, rules, ℕ, ◌<◌, Bool, true, false, List, [], ◌∷◌, ◌++◌, length}
use Rattle.std.specs.Prelude.{Option, None, Some, if◌then◌else◌, nat_eq, nat_lt, ◌&&◌, ◌||◌}
use Rattle.sp_text.specs.declared.violation.FileViolation.{FileViolation}
use Rattle.sp_text.specs.declared.violation.Violation.{Violation}
use Rattle.sp_text.specs.Firsts.{earliest_by}
use Rattle.sp_text.specs.Violations.{first, first_in_files, in_file, sooner, sooner_in_files}
use Rattle.sp_text.proofs.Firsts.{first_by_none, first_in_file, first_in_files_append, placed}
use Rattle.sp_tree.specs.declared.interface.Equation.{Equation}
use Rattle.sp_tree.specs.declared.module.Module.{Module}
use Rattle.sp_naming.specs.Numbers.{after, counted}
use Rattle.sp_judge.specs.Visible.{Visible}
use Rattle.sp_specification.specs.Ends.{levels_broken}
use Rattle.sp_making.specs.Seen.{at_module, modules_broken}

-- violations of other files than the interface's
abbrev AreLater : List FileViolation → Type 0
AreLater [] = Unit {0}
AreLater (v ∷ vs) = (0 < v.file) × AreLater vs

abbrev IsLater : Option FileViolation → Type 0
IsLater None = Unit {0}
IsLater (Some v) = 0 < v.file

later_append : (vs ws : List FileViolation) → AreLater vs → AreLater ws → AreLater (vs ++ ws)
later_append [] ws h i = i
later_append (v ∷ vs) ws h i = (h.0, later_append vs ws h.1 i)

later_file : (n : ℕ) → 0 < n → (vs : List Violation) → AreLater (in_file n vs)
later_file n l [] = tt
later_file n l (v ∷ vs) = (l, later_file n l vs)

file_later : (k : ℕ) → 0 < counted 1 k
file_later k = omega arith

modules_later : (t : Visible) (qs : List Equation) (k g : ℕ) (ms : List Module) → AreLater (modules_broken t qs k g ms)
modules_later t qs k g [] = tt
modules_later t qs k g (m ∷ ms) =
    later_append (in_file (counted 1 k) (levels_broken (at_module t k) t qs g m.functions)) (modules_broken t qs (after k) (counted g (length m.functions)) ms)
    (later_file (counted 1 k) (file_later k) (levels_broken (at_module t k) t qs g m.functions))
    (modules_later t qs (after k) (counted g (length m.functions)) ms)

later_of : (v : FileViolation) (y : Option FileViolation) → 0 < v.file → IsLater y → IsLater (earliest_by sooner_in_files (Some v) y)
later_of v None l h = l
later_of v (Some w) l h = by (sooner_in_files w v)
  where
    by : (b : Bool) → IsLater (Some (if b then w else v))
    by true = h
    by false = l

first_later : (vs : List FileViolation) → AreLater vs → IsLater (first_in_files vs)
first_later [] h = tt
first_later (v ∷ vs) h = later_of v (first_in_files vs) h.0 (first_later vs h.1)

not_sooner : (n : ℕ) (p : Bool) → 0 < n → (nat_lt n 0 || (nat_eq n 0 && p)) ≡ false
not_sooner n p l = grind (arith, rules)

abbrev own : Violation → FileViolation
own v = record { file = 0; violation = v }

before_later : (v : Violation) (y : Option FileViolation) → IsLater y → earliest_by sooner_in_files (Some (own v)) y ≡ Some (own v)
before_later v None h = refl
before_later v (Some w) h = ap (λ b. Some (if b then w else own v)) (not_sooner w.file (sooner w.violation v) h)

-- where the interface breaks something, its modules don't matter
pub own_first : (t : Visible) (qs : List Equation) (ms : List Module) (xs : List Violation) (v : Violation) → Some v ≡ first xs →
    first_in_files (in_file 0 xs) ≡ first_in_files (in_file 0 xs ++ modules_broken t qs 0 0 ms)
own_first t qs ms xs v h =
    let ys = modules_broken t qs 0 0 ms in
    let one = first_in_file 0 xs ∙ ap (placed 0) (sym h) in
    one ∙ sym (before_later v (first_in_files ys) (first_later ys (modules_later t qs 0 0 ms)))
    ∙ ap (λ z. earliest_by sooner_in_files z (first_in_files ys)) (sym one) ∙ sym (first_in_files_append (in_file 0 xs) ys)

-- where it breaks nothing, they alone matter
pub others_first : (xs : List Violation) (ys : List FileViolation) → None ≡ first xs → first_in_files ys ≡ first_in_files (in_file 0 xs ++ ys)
others_first xs ys h = ap (λ zs. first_in_files (in_file 0 zs ++ ys)) (sym (first_by_none sooner xs (sym h)))
