use Rattle.std.proofs.Common.{◌<◌, List, ℕ, length, sym, ap, ◌∙◌, subst}
use Rattle.std.specs.Prelude.{slice_index}
use Rattle.std.proofs.Math.Path.{fun_ext}
use Rattle.sp_rules.specs.Facts.{holds_in}
use Rattle.sp_rules.specs.Terms.{Terms, count}
use Rattle.sp_cert.specs.Checks.{Facts, fault}
use Rattle.sp_cert.specs.Tree.{tree}
use Rattle.sp_checker.specs.Known.{judge}
use Rattle.sp_checker.proofs.Rooms.{enough}
use Rattle.sp_checker.proofs.checker.fault_for.Goals as goal

pub returns-clause-fault : goal.returns-clause-fault
returns-clause-fault c =
    let t = tree c.args.cert.now in
    let h = holds_in c.args.eq.now c.args.le.now in
    c.tree_fault.ensures.fault ∙ ap (λ (ts : Terms). fault (judge ts c.atoms.result.now) t h 0 0 0) c.terms-terms.ensures
    ∙ ap (λ (l : List ℕ). fault (judge c.args.root.now.terms l) t h 0 0 0) c.atoms.ensures
    ∙ ap (λ (g : Facts). fault (judge c.args.root.now.terms c.args.root.now.atoms) t g 0 0 0) (fun_ext c.requires.holds)

pub tree_fault-requires-clause-room : goal.tree_fault-requires-clause-room
tree_fault-requires-clause-room c = enough c.args.eq.now c.args.le.now (count c.args.root.now.terms) (length c.args.trail.now) c.requires.eq c.requires.le c.requires.room

pub tree_fault-requires-clause-atoms : goal.tree_fault-requires-clause-atoms
tree_fault-requires-clause-atoms c = λ k l.
    subst (λ (ts : Terms). slice_index c.atoms.result.now k < count ts) (sym c.terms-terms.ensures)
    (subst (λ (l : List ℕ). k < length l → slice_index l k < count c.args.root.now.terms) (sym c.atoms.ensures) (λ l. c.tell_question.ensures.atoms k 0 l) l)
