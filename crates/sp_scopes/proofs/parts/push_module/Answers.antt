use Rattle.std.proofs.Common.{◌≡◌, ◌∙◌, ap, ◌++◌, map}
use Rattle.sp_naming.specs.Visibility.{taken}
use Rattle.sp_scopes.specs.Headers.{see_of}
use Rattle.sp_scopes.specs.Heads.{function_head, plain_head}
use Rattle.sp_scopes.specs.Lent.{definition_of}
use Rattle.sp_scopes.proofs.parts.push_module.Goals as goal

pub returns-clause-parameters : goal.returns-clause-parameters
returns-clause-parameters c =
    let ds = c.args.declared.now in
    let ms = c.args.modules.now in
    let takes : c.in_ok-names.names ≡ taken ds ms c.args.text.now.externals = c.in_ok-names.ensures ∙ ap (taken ds ms) c.items.ensures in
    c.in_ok-append.ensures.items
    ∙ ap (λ z. c.args.parts.now.parameters.items ++ z) (c.in_ok-parameters.ensures ∙ (λ j. map (plain_head (see_of ds c.args.k (takes j))) (c.items-2.ensures j)))

pub returns-clause-definitions : goal.returns-clause-definitions
returns-clause-definitions c =
    let ds = c.args.declared.now in
    let ms = c.args.modules.now in
    let takes : c.in_ok-names.names ≡ taken ds ms c.args.text.now.externals = c.in_ok-names.ensures ∙ ap (taken ds ms) c.items.ensures in
    c.in_ok-append-2.ensures.items
    ∙ ap (λ z. c.args.parts.now.definitions.items ++ z) (c.in_ok-definitions.ensures ∙ (λ j. map (definition_of c.args.k (see_of ds c.args.k (takes j))) (c.items-3.ensures j)))

pub returns-clause-functions : goal.returns-clause-functions
returns-clause-functions c =
    let ds = c.args.declared.now in
    let ms = c.args.modules.now in
    let takes : c.in_ok-names.names ≡ taken ds ms c.args.text.now.externals = c.in_ok-names.ensures ∙ ap (taken ds ms) c.items.ensures in
    c.in_ok-append-3.ensures.items
    ∙ ap (λ z. c.args.parts.now.functions.items ++ z) (c.in_ok-functions.ensures ∙ (λ j. map (function_head (see_of ds c.args.k (takes j))) (c.items-4.ensures j)))
