use Rattle.std.proofs.Common.{sym, ◌∙◌, ap, arith, [], ◌∷◌, ◌++◌, map, take}
use Rattle.std.proofs.lemmas.List.{map-append}
use Rattle.sp_naming.proofs.Gathering.{next_item, number_after, number_next}
use Rattle.sp_scopes.specs.Heads.{function_heads, parameter_heads}
use Rattle.sp_scopes.specs.Lent.{module_definitions}
use Rattle.sp_scopes.specs.Scopes.{module_takes}
use Rattle.sp_scopes.proofs.parts.parts_of.Goals as goal

pub loop-text-preserved : goal.loop-text-preserved
loop-text-preserved c =
    let ds = c.args.declared.now in
    let names = c.args.names.now in
    let ms = c.args.modules.now in
    let i = c.loop-text.text-index in
    let m = c.text-item.result in
    let n = c.loop-text.number in
    let lt = c.loop-text-test.true in
    let is = c.text-item.is in
    let before = c.loop-text.invariant in
    let pushed = c.in_ok-push_module.ensures in
    record {
      number = c.after-number.ensures ∙ number_after 0 i n (omega arith) before.number;
      takes = pushed.takes ∙ ap (λ z. z ++ module_takes ds names m ∷ []) before.takes
          ∙ sym (map-append (module_takes ds names) (take i ms) (m ∷ [])) ∙ ap (map (module_takes ds names)) (next_item ms i m lt is);
      parameters = pushed.parameters ∙ ap (λ z. z ++ parameter_heads ds names n m) before.parameters
          ∙ number_next (parameter_heads ds names) 0 ms i m n (omega arith) lt is before.number;
      definitions = pushed.definitions ∙ ap (λ z. z ++ module_definitions ds names n m) before.definitions
          ∙ number_next (module_definitions ds names) 0 ms i m n (omega arith) lt is before.number;
      functions = pushed.functions ∙ ap (λ z. z ++ function_heads ds names n m) before.functions
          ∙ number_next (function_heads ds names) 0 ms i m n (omega arith) lt is before.number;
    }
