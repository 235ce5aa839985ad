-- Numbered lists, item by item.
use Rattle.std.proofs.Common.{◌≡◌, refl, sym, ◌∙◌, ap, arith, ℕ, suc, ◌+◌, ◌<◌, ◌≤◌, List, [], ◌∷◌, ◌++◌, take, length, get_or, append_assoc}
use Rattle.std.proofs.lemmas.List.{append-nil}
use Rattle.std.proofs.Common.{length-take}
use Rattle.sp_tree.specs.declared.module.Module.{Module}
use Rattle.sp_naming.specs.declared.declaration.Declaration.{Declaration}
use Rattle.sp_naming.specs.declared.listing.Counts.{Counts}
use Rattle.sp_naming.specs.Declarations.{counts_after, module_declarations, modules_declarations}
use Rattle.sp_naming.specs.Numbers.{after, counted, numbered}
use Rattle.sp_naming.proofs.Gathering.{next_item, numbered-more}

-- the step of a loop that appends what each item makes
pub pushed : {A B : Type 0} (make : ℕ → A → List B) (k : ℕ) (xs : List A) (i : ℕ) (x : A) (start before after' : List B) (n : ℕ) → k ≤ 65535 → i < length xs → x ≡ get_or xs i x →
    before ≡ start ++ numbered make k (take i xs) → n ≡ counted k i → after' ≡ before ++ make n x → after' ≡ start ++ numbered make k (take (i + 1) xs)
pushed make k xs i x start before after' n small lt is b m a =
    let len : length (take i xs) ≡ i = omega (arith, length-take i xs) in
    let number : n ≡ counted k (length (take i xs)) = m ∙ ap (counted k) (sym len) in
    a ∙ (λ j. b j ++ make (number j) x) ∙ append_assoc start (numbered make k (take i xs)) (make (counted k (length (take i xs))) x)
    ∙ ap (λ z. start ++ z) (sym (numbered-more make k (take i xs) x small) ∙ ap (numbered make k) (next_item xs i x lt is))

-- Modules

-- the counts after all of the modules
abbrev pub counts_all : Counts → List Module → Counts
counts_all c [] = c
counts_all c (m ∷ ms) = counts_all (counts_after c m) ms

pub counts_all-more : (c : Counts) (ms : List Module) (m : Module) → counts_after (counts_all c ms) m ≡ counts_all c (ms ++ m ∷ [])
counts_all-more c [] m = refl
counts_all-more c (n ∷ ms) m = counts_all-more (counts_after c n) ms m

modules-more : (f : ℕ) (c : Counts) (ms : List Module) (m : Module) → f ≤ 65535 →
    modules_declarations f c (ms ++ m ∷ []) ≡ modules_declarations f c ms ++ module_declarations (counted f (length ms)) (counts_all c ms) m
modules-more f c [] m h =
    let e : f ≡ counted f 0 = omega arith in
    append-nil (module_declarations f c m) ∙ ap (λ n. module_declarations n c m) e
modules-more f c (n ∷ ms) m h =
    let next : counted (after f) (length ms) ≡ counted f (suc (length ms)) = omega arith in
    let d = module_declarations f c n in
    ap (λ z. d ++ z) (modules-more (after f) (counts_after c n) ms m (omega arith) ∙ ap (λ k. modules_declarations (after f) (counts_after c n) ms ++ module_declarations k (counts_all (counts_after c n) ms) m) next)
    ∙ sym (append_assoc d (modules_declarations (after f) (counts_after c n) ms) (module_declarations (counted f (suc (length ms))) (counts_all (counts_after c n) ms) m))

-- the step of the loop over modules
pub module_pushed : (f : ℕ) (c : Counts) (ms : List Module) (i : ℕ) (m : Module) (start before after' : List Declaration) (n : ℕ) (d : Counts) → f ≤ 65535 → i < length ms → m ≡ get_or ms i m →
    before ≡ start ++ modules_declarations f c (take i ms) → n ≡ counted f i → d ≡ counts_all c (take i ms) → after' ≡ before ++ module_declarations n d m → after' ≡ start ++ modules_declarations f c (take (i + 1) ms)
module_pushed f c ms i m start before after' n d small lt is b q r a =
    let len : length (take i ms) ≡ i = omega (arith, length-take i ms) in
    let number : n ≡ counted f (length (take i ms)) = q ∙ ap (counted f) (sym len) in
    a ∙ (λ j. b j ++ module_declarations (number j) (r j) m) ∙ append_assoc start (modules_declarations f c (take i ms)) (module_declarations (counted f (length (take i ms))) (counts_all c (take i ms)) m)
    ∙ ap (λ z. start ++ z) (sym (modules-more f c (take i ms) m small) ∙ ap (modules_declarations f c) (next_item ms i m lt is))

pub counts_pushed : (c : Counts) (ms : List Module) (i : ℕ) (m : Module) (d : Counts) → i < length ms → m ≡ get_or ms i m → d ≡ counts_all c (take i ms) → counts_after d m ≡ counts_all c (take (i + 1) ms)
counts_pushed c ms i m d lt is r = ap (λ z. counts_after z m) r ∙ counts_all-more c (take i ms) m ∙ ap (counts_all c) (next_item ms i m lt is)
