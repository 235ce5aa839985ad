use Rattle.sp_mapping_rules.specs.Mappings.{seen_broken, seen_mapping}
use Rattle.sp_mapping.proofs.mapping.elaborate_seen.Goals as goal

pub returns : goal.returns
returns c =
    c.unless.ensures (seen_broken c.args.upper.now c.args.lower.now c.args.scope.now c.args.m.now) (seen_mapping c.args.upper.now c.args.scope.now c.args.m.now)
    c.in_ok-judged.ensures.found c.in_ok-judged.ensures.made
