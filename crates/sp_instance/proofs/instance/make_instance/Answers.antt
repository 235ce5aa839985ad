use Rattle.std.proofs.Common.{sym, ◌∙◌}
use Rattle.sp_instance.specs.Instances.{front_broken, instance_broken, tables_broken}
use Rattle.sp_instance.proofs.Judged.{first_inner, nothing, refused}
use Rattle.sp_instance.proofs.instance.make_instance.Goals as goal

pub finish-requires : goal.finish-requires
finish-requires c = record {
  front = nothing (front_broken c.args.spec.now c.args.t.now) (sym c.in_ok-begun.ensures.found ∙ c.in-None.is);
  members = c.in_ok-begun.ensures.members;
  names = c.in_ok-tables.ensures.names;
  named = c.in_ok-tables.ensures.named;
}

pub returns-in-Some : goal.returns-in-Some
returns-in-Some c =
    let p = c.args.spec.now in
    let t = c.args.t.now in
    record {
      judges = refused (instance_broken p t) c.in-Some.found c.from.result (first_inner (front_broken p t) (tables_broken p t) c.in-Some.found (sym c.in_ok-begun.ensures.found ∙ c.in-Some.is)) c.from.ensures;
      instance = tt;
    }
