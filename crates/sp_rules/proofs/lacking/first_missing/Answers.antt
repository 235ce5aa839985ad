use Rattle.std.proofs.Common.{◌≡◌, true, false, sym, arith, add-one}
use Rattle.sp_rules.specs.Terms.{node_at, arg}
use Rattle.sp_rules.specs.declared.fact.Fact.TheVariants.{Eq}
use Rattle.sp_rules.specs.Facts.{holds_in}
use Rattle.sp_rules.proofs.ArgumentsApart.{found_of, none_more}
use Rattle.sp_rules.proofs.lacking.first_missing.Goals as goal

pub returns-then-not-holds : goal.returns-then-not-holds
returns-then-not-holds c =
    let ts = c.args.terms.now in
    let h = holds_in c.args.eq.now c.args.le.now in
    let apart : h (Eq (arg ts c.args.i c.loop-k.k) (arg ts c.args.j c.loop-k.k)) ≡ false = cc (c.argument.ensures, c.argument-in-loop-k.ensures, c.holds.ensures) in
    rw (c.argument.ensures, c.argument-in-loop-k.ensures) (sym (found_of ts h c.args.i c.args.j c.loop-k.k (node_at ts c.args.i).count (omega arith) c.loop-k.invariant apart))

pub loop-k-preserved : goal.loop-k-preserved
loop-k-preserved c =
    let ts = c.args.terms.now in
    let h = holds_in c.args.eq.now c.args.le.now in
    let same : h (Eq (arg ts c.args.i c.loop-k.k) (arg ts c.args.j c.loop-k.k)) ≡ true = cc (c.argument.ensures, c.argument-in-loop-k.ensures, c.holds.ensures) in
    rw add-one (none_more ts h c.args.i c.args.j c.loop-k.k c.loop-k.invariant same)
