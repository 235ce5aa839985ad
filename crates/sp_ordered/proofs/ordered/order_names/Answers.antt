use Rattle.std.proofs.Common.{◌∙◌, ap, refl}
use Rattle.sp_text.specs.Violations.{in_file}
use Rattle.sp_scopes.specs.Interfaces.{scopes_broken}
use Rattle.sp_order.proofs.Ends.{ends}
use Rattle.sp_ordered.proofs.Told.{first_flaw, headers_fine, told_fine, told_flaw, told_judged, told_nothing, told_some, told_whole}
use Rattle.sp_ordered.proofs.ordered.order_names.Goals as goal

pub returns-in-Kept-clause-judged : goal.returns-in-Kept-clause-judged
returns-in-Kept-clause-judged c = λ o j.
    let i = c.args.interface.now in
    let none = told_nothing i c.in-Ok.order c.in-Kept.lattice c.in-Ok.ensures c.in-Kept.is o j in
    (headers_fine i c.args.modules.now o c.in-Ok-declare.ensures.0 ∙ ap (in_file 0) none, c.in-Ok-declare.ensures.1)

pub returns-in-Kept-clause-order : goal.returns-in-Kept-clause-order
returns-in-Kept-clause-order c =
    (told_whole c.args.interface.now c.args.modules.now c.in-Ok-declare.scopes c.in-Ok.order c.in-Kept.lattice c.in-Ok.ensures c.in-Kept.is c.in-Ok-declare.ensures.1).order

pub returns-in-Kept-clause-levels : goal.returns-in-Kept-clause-levels
returns-in-Kept-clause-levels c =
    (told_whole c.args.interface.now c.args.modules.now c.in-Ok-declare.scopes c.in-Ok.order c.in-Kept.lattice c.in-Ok.ensures c.in-Kept.is c.in-Ok-declare.ensures.1).levels

pub returns-in-Kept-clause-kept : goal.returns-in-Kept-clause-kept
returns-in-Kept-clause-kept c =
    (told_whole c.args.interface.now c.args.modules.now c.in-Ok-declare.scopes c.in-Ok.order c.in-Kept.lattice c.in-Ok.ensures c.in-Kept.is c.in-Ok-declare.ensures.1).kept

pub returns-in-Kept-clause-fine : goal.returns-in-Kept-clause-fine
returns-in-Kept-clause-fine c = told_fine c.args.interface.now c.in-Ok.order c.in-Kept.lattice c.in-Ok.ensures c.in-Kept.is

pub returns-in-Flawed-clause-judged : goal.returns-in-Flawed-clause-judged
returns-in-Flawed-clause-judged c = λ o j.
    let i = c.args.interface.now in
    let is = told_flaw i c.in-Ok.order c.in-Flawed.rule c.keyword-place.result c.in-Ok.ensures c.in-Flawed.is c.keyword-place.ensures o j in
    first_flaw i c.args.modules.now o c.keyword-place.result c.in-Flawed.rule c.in-Ok-declare.ensures.0 is

pub returns-in-Err-declare-clause-judged : goal.returns-in-Err-declare-clause-judged
returns-in-Err-declare-clause-judged c = λ o j.
    let i = c.args.interface.now in
    c.earliest_fault.ensures i (scopes_broken i c.args.modules.now) o c.in-Ok.ensures c.keyword-place.ensures j c.in-Err-declare.ensures

pub returns-in-Kept-clause-ends : goal.returns-in-Kept-clause-ends
returns-in-Kept-clause-ends c =
    let told = told_whole c.args.interface.now c.args.modules.now c.in-Ok-declare.scopes c.in-Ok.order c.in-Kept.lattice c.in-Ok.ensures c.in-Kept.is c.in-Ok-declare.ensures.1 in
    ends c.in-Ok-declare.scopes c.in-Kept.lattice told.order told.lattice

pub unreachable-requires : goal.unreachable-requires
unreachable-requires c = told_judged c.args.interface.now c.args.modules.now c.in-Ok.order c.in-Ok.ensures c.in-Ok-declare.ensures.0 c.in-Unjudged.is

pub returns-in-Err-clause-found : goal.returns-in-Err-clause-found
returns-in-Err-clause-found c = λ lost. absurd (lost c.out_of_memory.result refl c.out_of_memory.ensures)

pub returns-in-Kept-clause-found : goal.returns-in-Kept-clause-found
returns-in-Kept-clause-found c = λ lost. told_some c.args.interface.now c.in-Ok.order c.in-Ok.ensures

pub returns-in-Flawed-clause-found : goal.returns-in-Flawed-clause-found
returns-in-Flawed-clause-found c = λ lost. told_some c.args.interface.now c.in-Ok.order c.in-Ok.ensures

pub returns-in-Err-declare-clause-found : goal.returns-in-Err-declare-clause-found
returns-in-Err-declare-clause-found c = λ lost. told_some c.args.interface.now c.in-Ok.order c.in-Ok.ensures
