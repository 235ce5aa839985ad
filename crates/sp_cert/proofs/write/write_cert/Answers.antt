use Rattle.std.proofs.Common.{◌≡◌, ◌++◌, ◌∷◌, [], List, ℕ, map, Result, Ok, Err, ap, ◌∙◌, append_assoc}
use Rattle.std.specs.Prelude.{OnOk, codes, decimal}
use Rattle.sp_text.specs.declared.fault.Memory.{Memory}
use Rattle.sp_cert.specs.Tree.{tree}
use Rattle.sp_cert.specs.Spelling.{text, first_line, formula_lines}
use Rattle.sp_cert.proofs.write.write_cert.Goals as goal

on_ok : {P Q : Type 0} (r : Result (Unit {0}) Memory) → (P → Q) → OnOk r P → OnOk r Q
on_ok (Ok u) f p = f p
on_ok (Err e) f p = p

pub returns-clause-ok : goal.returns-clause-ok
unfolding first_line
returns-clause-ok c =
    let v = c.args.file.now.format in
    let certs = c.args.file.now.certs.items in
    let line : List ℕ = codes "CERT " ++ decimal v in
    let rest = text (formula_lines 1 (map tree certs)) in
    let put : c.push_line.new.out.items ≡ line ++ 10 ∷ [] =
    c.in_ok-push_line.ensures ∙ ap (λ (l : List ℕ). l ++ ((codes "CERT " ++ decimal c.from.result) ++ 10 ∷ [])) c.new-made.ensures.items
    ∙ ap (λ n. (codes "CERT " ++ decimal n) ++ 10 ∷ []) c.from.ensures in
    let made : c.push_formulas.new.out.items ≡ line ++ (10 ∷ rest) =
    c.in_ok-push_formulas.ensures ∙ ap (λ t. t ++ text (formula_lines 1 (map tree c.deref.result.now))) put
    ∙ ap (λ cs. (line ++ 10 ∷ []) ++ text (formula_lines 1 (map tree cs))) c.deref.ensures.value ∙ append_assoc line (10 ∷ []) rest in
    on_ok c.push_text.result (λ e. e ∙ ap (λ t. c.args.out.now.items ++ t) (c.deref-2.ensures.value ∙ made)) c.push_text.ensures.ok
