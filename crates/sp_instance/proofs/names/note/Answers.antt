use Rattle.std.proofs.Common.{◌≡◌, sym, ◌∙◌, ap, true, false, cond}
use Rattle.std.specs.Prelude.{is_some, Some}
use Rattle.std.specs.Map.{lookup}
use Rattle.std.specs.Str.{bytes_eq}
use Rattle.sp_naming.specs.Names.{at_name}
use Rattle.sp_instance.proofs.Indexes.{known_again, known_new, lookup-insert_entry}
use Rattle.sp_instance.proofs.names.note.Goals as goal
use Rattle.sp_instance.proofs.names.note.Goals.{in-Ok, in-Err}

pub returns-then-contains_key : goal.returns-then-contains_key
returns-then-contains_key c before h k =
    let known : is_some (at_name c.args.index.now c.args.name.now) ≡ true = sym c.contains_key.ensures ∙ c.if-contains_key.true in
    known_again before (at_name c.args.index.now) c.args.name.now h known

pub returns : goal.returns
returns c before h k =
    let new : is_some (at_name c.args.index.now c.args.name.now) ≡ false = sym c.contains_key.ensures ∙ c.if-contains_key.false in
    elim c.match-insert.branch [
      | in-Ok w ↦
          rw w.result-is (
          known_new before (at_name c.args.index.now) (at_name c.insert.new.self) c.args.name.now c.args.place h new k
          (λ x. ap (lookup (λ key. bytes_eq x key.items)) w.in-Ok.ensures.entries ∙ lookup-insert_entry x c.args.index.now.entries c.in_ok-key.key c.args.place
          ∙ ap (λ z. cond (bytes_eq x z) (Some c.args.place) (at_name c.args.index.now x)) (c.in_ok-key.ensures.items_if_clones_equal (λ _ _ e. e)))
          )
      | in-Err w ↦ rw w.result-is tt
    ]
