use Rattle.std.proofs.Common.{◌≡◌, ◌+◌, ◌++◌, [], sym, ◌∙◌, ap, arith, map, suc, take}
use Rattle.std.specs.Prelude.{◌==◌, if◌then◌else◌}
use Rattle.std.specs.List.{filter}
use Rattle.sp_core.specs.Effects.{changes_in, effect_tree, effect_trees_of}
use Rattle.sp_core.specs.Ranks.{change_rank}
use Rattle.sp_core.specs.States.{entry_of}
use Rattle.sp_listing.specs.Conditions.{machine}
use Rattle.sp_listing.specs.True.{entries_at, true_entries}
use Rattle.sp_listing.proofs.OfRank.{entries_next, own_number}
use Rattle.sp_listing.proofs.over.Over.list_rank.Goals as goal

pub loop-number-preserved : goal.loop-number-preserved
loop-number-preserved c =
    let s = c.args.self.now in
    let as' = changes_in (effect_trees_of (map effect_tree c.args.effects.now)) in
    let k = c.loop-number.number in
    let more : suc k ≡ k + 1 = omega arith in
    let q = own_number (λ a. change_rank as' a.fun) as' c.args.ranks.now c.requires.ranks k (omega (arith, c.loop-number-test.true, c.count_all-number-end.ensures)) in
    c.in_ok-list_if.ensures q.0 q.1
    ∙ ap (λ x. c.loop-number.out.items ++ (if x == c.args.rank then entries_at (machine s) (entry_of s.old) (entry_of s.new) c.new-env.result q.0 else [])) q.2
    ∙ ap (λ es. es ++ (if change_rank as' q.0.fun == c.args.rank then entries_at (machine s) (entry_of s.old) (entry_of s.new) c.new-env.result q.0 else [])) c.loop-number.invariant
    ∙ ap (λ x. true_entries (machine s) (entry_of s.old) (entry_of s.new) c.args.i.now (filter (λ a. change_rank as' a.fun == c.args.rank) (take k as')) ++ (if change_rank as' q.0.fun == c.args.rank then entries_at (machine s) (entry_of s.old) (entry_of s.new) x q.0 else [])) c.new-env.ensures
    ∙ sym (entries_next (machine s) (entry_of s.old) (entry_of s.new) c.args.i.now (λ a. change_rank as' a.fun == c.args.rank) as' k q.0 q.1)
    ∙ ap (λ n. true_entries (machine s) (entry_of s.old) (entry_of s.new) c.args.i.now (filter (λ a. change_rank as' a.fun == c.args.rank) (take n as'))) more
