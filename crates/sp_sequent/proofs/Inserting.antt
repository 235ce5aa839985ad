-- The steps of placing an expression behind its subterms.
use Rattle.std.proofs.Common.{◌≡◌, refl, sym, ◌∙◌, ap, subst, rules, arith, ℕ, zero, suc, ◌+◌, ◌<◌, ◌≤◌, Bool, true, false, ⊎_elim, List, [], ◌∷◌, ◌++◌, map, length, append_assoc, take, drop, get_or}
use Rattle.std.specs.Prelude.{◌==◌, slice_get, Some, if◌then◌else◌}
use Rattle.std.specs.List.{flat_map}
use Rattle.std.specs.List.{range_with_len}
use Rattle.std.specs.Prelude.{slice_index}
use Rattle.std.proofs.lemmas.Bool.{cases_lt}
use Rattle.std.proofs.lemmas.List.FromFn.{fill_by_all}
use Rattle.sp_pool.specs.declared.node.Head.{Head}
use Rattle.sp_pool.specs.declared.node.TermId.{TermId}
use Rattle.sp_pool.specs.Nodes.{term}
use Rattle.sp_sequent.specs.Numbers.{IsPadded}
use Rattle.sp_sequent.specs.declared.terms.Refused.{Refused}
use Rattle.sp_sequent.specs.declared.terms.Refused.TheVariants as refused
use Rattle.std.proofs.lemmas.List.{take_all, length-append, get_or-map, get_or-take, get_or_past, length-take-le, append-nil, map-append, length-map}
use Rattle.std.proofs.lemmas.List.Concat.{flat_map-append}
use Rattle.std.proofs.lemmas.Option.{none-some, same_Some, slice_get-map, slice_get_read}
use Rattle.std.specs.Option.{option_map}
use Rattle.sp_pool.proofs.NodeLaws.{get_last}
use Rattle.sp_pool.specs.declared.node.Node.{Node}
use Rattle.sp_pool.specs.Nodes.{HasNode, IsHeld, IsPool}
use Rattle.sp_core.specs.declared.expr.Expr.{Expr}
use Rattle.sp_core.specs.declared.expr.Expr.TheVariants as expr
use Rattle.sp_core.specs.Tree.{Tree, tree, trees_of}
use Rattle.sp_sequent.specs.Subterms.{subterms, truths, contains, ends, number, quantified, is_quantified, with_all, with_new}
use Rattle.sp_sequent.specs.Same.{same_tree}
use Rattle.sp_sequent.specs.Numbers.{IsTooMany, HasEach, IsInserted, Numbers, Reached, head_of, list_of, node, node_of, parts}
use Rattle.sp_core.proofs.TreeLemmas.{tree-Param, tree-Look, tree-New}
use Rattle.sp_sequent.proofs.Numbering.{number_here, number_later, Has, ends_are, has_each_more, has_last, held_at, is_held, length_held, number_absent, with_all_longer, number_last, number_within, numbers_more, numbers_with, with_all-append, with_all_grows}

pub list_is : (ds : List Expr) → list_of (trees_of (map tree ds)) ≡ map tree ds
list_is [] = refl
list_is (d ∷ ds) = ap (λ x. tree d ∷ x) (list_is ds)

pub parts-Param : (e : Expr) (p : ℕ) (ds as' : List Expr) → e ≡ expr.Param p ds → as' ≡ ds → parts (tree e) ≡ map tree as'
parts-Param e p ds as' i j = ap (λ e. parts (tree e)) i ∙ ap parts (tree-Param p ds) ∙ list_is ds ∙ ap (map tree) (sym j)

pub parts-Look : (e : Expr) (p : ℕ) (ds as' : List Expr) → e ≡ expr.Look p ds → as' ≡ ds → parts (tree e) ≡ map tree as'
parts-Look e p ds as' i j = ap (λ e. parts (tree e)) i ∙ ap parts (tree-Look p ds) ∙ list_is ds ∙ ap (map tree) (sym j)

pub parts-New : (e : Expr) (p : ℕ) (ds as' : List Expr) → e ≡ expr.New p ds → as' ≡ ds → parts (tree e) ≡ map tree as'
parts-New e p ds as' i j = ap (λ e. parts (tree e)) i ∙ ap parts (tree-New p ds) ∙ list_is ds ∙ ap (map tree) (sym j)

add_one : (k : ℕ) → k + 1 ≡ suc k
add_one k = omega arith

take_next : {X : Type 0} (xs : List X) (k : ℕ) (x : X) → slice_get xs k ≡ Some x → take (suc k) xs ≡ take k xs ++ x ∷ []
take_next [] k x q = absurd (none-some x q)
take_next (y ∷ xs) zero x q = ap (λ z. z ∷ []) (same_Some y x q)
take_next (y ∷ xs) (suc k) x q = ap (λ z. y ∷ z) (take_next xs k x q)

pub take_one : {X : Type 0} (xs : List X) (k : ℕ) (x : X) → slice_get xs k ≡ Some x → take (k + 1) xs ≡ take k xs ++ x ∷ []
take_one xs k x q = ap (λ m. take m xs) (add_one k) ∙ take_next xs k x q

-- a list around one of its elements
pub around : {X : Type 0} (xs : List X) (k : ℕ) (x : X) → slice_get xs k ≡ Some x → xs ≡ take k xs ++ (x ∷ drop (suc k) xs)
around [] k x q = absurd (none-some x q)
around (y ∷ xs) zero x q = ap (λ z. z ∷ xs) (same_Some y x q)
around (y ∷ xs) (suc k) x q = ap (λ z. y ∷ z) (around xs k x q)

drop_at : {X : Type 0} (xs : List X) (k : ℕ) (x : X) → slice_get xs k ≡ Some x → drop k xs ≡ x ∷ drop (suc k) xs
drop_at [] k x q = absurd (none-some x q)
drop_at (y ∷ xs) zero x q = ap (λ z. z ∷ xs) (same_Some y x q)
drop_at (y ∷ xs) (suc k) x q = drop_at xs k x q

pub listed_at : {X : Type 0} (f : X → Tree) (xs ys : List X) (i : ℕ) (x : X) → ys ≡ xs → i < length ys → x ≡ get_or ys i x → slice_get (map f xs) i ≡ Some (f x)
listed_at f xs ys i x q below is =
    ap (λ zs. slice_get (map f zs) i) (sym q) ∙ slice_get-map f ys i ∙ ap (option_map f) (slice_get_read ys (length ys) i x refl below is)

-- counting the quantified ones before the first that is the expression
module _ (ts : List Tree) (e t : Tree) (before i : ℕ) (at : slice_get ts i ≡ Some t) (so_far : before + number (quantified (drop i ts)) e ≡ number (quantified ts) e) where
  here_is : drop i ts ≡ t ∷ drop (suc i) ts
  here_is = drop_at ts i t at

  pub counted_here : is_quantified t ≡ true → same_tree t e ≡ true → before ≡ number (quantified ts) e
  counted_here k s =
      let zero_here : number (quantified (drop i ts)) e ≡ 0 =
      ap (λ x. number (quantified x) e) here_is ∙ ap (λ b. number (if b then t ∷ quantified (drop (suc i) ts) else quantified (drop (suc i) ts)) e) k ∙ number_here t (quantified (drop (suc i) ts)) e s in
      omega (arith, so_far, zero_here)

  pub counted_other : is_quantified t ≡ false → before + number (quantified (drop (i + 1) ts)) e ≡ number (quantified ts) e
  counted_other k =
      let later : number (quantified (drop i ts)) e ≡ number (quantified (drop (suc i) ts)) e =
      ap (λ x. number (quantified x) e) here_is ∙ ap (λ b. number (if b then t ∷ quantified (drop (suc i) ts) else quantified (drop (suc i) ts)) e) k in
      omega (arith, so_far, later, ap (λ m. number (quantified (drop m ts)) e) (add_one i))

  pub counted_later : is_quantified t ≡ true → same_tree t e ≡ false → (before + 1) + number (quantified (drop (i + 1) ts)) e ≡ number (quantified ts) e
  counted_later k s =
      let later : number (quantified (drop i ts)) e ≡ suc (number (quantified (drop (suc i) ts)) e) =
      ap (λ x. number (quantified x) e) here_is ∙ ap (λ b. number (if b then t ∷ quantified (drop (suc i) ts) else quantified (drop (suc i) ts)) e) k ∙ number_later t (quantified (drop (suc i) ts)) e s in
      omega (arith, so_far, later, ap (λ m. number (quantified (drop m ts)) e) (add_one i))

module _ (before ts : List Tree) (held : List Node) where
  pub reached_none : Numbers held ts → Reached ts held ts [] []
  reached_none h = record { numbers = h; grown = refl; args = refl; has = tt }

  pub reached_more : (ks : List ℕ) (ds : List Tree) (d : Tree) (held' : List Node) (ts' : List Tree) (k : ℕ) → Reached before held ts ks ds → IsInserted ts d held' ts' k → Reached before held' ts' (ks ++ k ∷ []) (ds ++ d ∷ [])
  reached_more ks ds d held' ts' k r i = record {
    numbers = i.numbers;
    grown = i.grown ∙ ap (λ x. with_all x (ends d)) r.grown ∙ sym (with_all-append before (flat_map ends ds) (ends d))
        ∙ ap (with_all before) (ap (λ x. flat_map ends ds ++ x) (sym (append-nil (ends d))) ∙ sym (flat_map-append ends ds (d ∷ [])));
    args =
        (λ j. (r.args ∙ sym (numbers_more ts g.0 ds r.has) ∙ ap (λ x. map (number x) ds) (sym up)) j ++ i.number j ∷ []) ∙ sym (map-append (number ts') ds (d ∷ []));
    has = has_each_last ds d (subst (λ x. HasEach x ds) (sym up) (has_each_more ts g.0 ds r.has)) i.has;
  }
    where
      g : (us : List Tree) × (with_all ts (ends d) ≡ ts ++ us)
      g = with_all_grows ts (ends d)

      up : ts' ≡ ts ++ g.0
      up = i.grown ∙ g.1

      has_each_last : (ds : List Tree) (d : Tree) → HasEach ts' ds → Has ts' d → HasEach ts' (ds ++ d ∷ [])
      has_each_last [] d a b = (b, tt)
      has_each_last (x ∷ ds) d a b = (a.0, has_each_last ds d a.1 b)

pub within_parts : (e : Tree) (xs : List Tree) (ds : List Expr) (k : ℕ) → parts e ≡ xs → xs ≡ map tree ds → k < length (parts e) → k < length ds
within_parts e xs ds k p q h = omega (arith, ap length p, ap length q, length-map ds tree)

pub reached_same : (before ts : List Tree) (held : List Node) (ks ls : List ℕ) (ds es : List Tree) → ls ≡ ks → es ≡ ds → Reached before held ts ks ds → Reached before held ts ls es
reached_same before ts held ks ls ds es p q r = subst (λ x. Reached before held ts x es) (sym p) (subst (Reached before held ts ks) (sym q) r)

pub reached_all : (before ts : List Tree) (held : List Node) (ks : List ℕ) (ds : List Tree) (k : ℕ) → length ds ≤ k → Reached before held ts ks (take k ds) → Reached before held ts ks ds
reached_all before ts held ks ds k all r = subst (Reached before held ts ks) (take_all k ds all) r

-- the numbers of a node's arguments, padded
pub padded_node : (h : Head) (count : ℕ) (places ks : List TermId) → IsPadded count places → ks ≡ take count places
    → (let r : Node = record { head = h; count = count; args = places } in r) ≡ node h (map (λ t. t.0) ks)
padded_node h count places ks pad q =
    let many : length (map (λ t. t.0) ks) ≡ count = length-map ks (λ t. t.0) ∙ ap length q ∙ length-take-le count places (omega (arith, pad.few)) in
    let filled : places ≡ map (λ k. term (slice_index (map (λ t. t.0) ks) k)) (range_with_len 0 8) =
    fill_by_all (λ k. term (slice_index (map (λ t. t.0) ks) k)) places 8 (term 0) pad.eight (λ k below. at k below) in
    λ i. record { head = h; count = sym many i; args = filled i }
  where
    at : (k : ℕ) → k < 8 → get_or places k (term 0) ≡ term (slice_index (map (λ t. t.0) ks) k)
    at k below = ⊎_elim
        (λ inner.
        ap term (sym (get_or-map (λ t. t.0) ks k (term 0) 0 (omega (arith, inner, ap length q, length-take-le count places (omega (arith, pad.few, pad.eight)))) ∙ ap (λ (t : TermId). t.0) (ap (λ xs. get_or xs k (term 0)) q ∙ get_or-take count places k (term 0) inner))))
        (λ outer.
        pad.padded k outer below ∙ ap term (sym (get_or_past (map (λ t. t.0) ks) k 0 (omega (arith, outer, length-map ks (λ t. t.0), ap length q, length-take-le count places (omega (arith, pad.few, pad.eight)))))))
        (cases_lt k count)

pub refused_more : (a b : List Tree) (r : Refused) → length a ≤ length b → IsTooMany a r → IsTooMany b r
refused_more a b refused.Full h q = omega arith
refused_more a b refused.Memory h q = tt

-- what a part doesn't leave room for, the whole doesn't
pub part_refused : (before ts : List Tree) (e d : Tree) (k : ℕ) (held : List Node) (ks : List ℕ) (r : Refused) → Reached before held ts ks (take k (parts e)) → slice_get (parts e) k ≡ Some d → IsTooMany (with_all ts (ends d)) r → IsTooMany (with_all before (ends e)) r
part_refused before ts e d k held ks r reached at h =
    let front = flat_map ends (take k (parts e)) in
    let rest = flat_map ends (drop (suc k) (parts e)) ++ e ∷ [] in
    let all : ends e ≡ (front ++ ends d) ++ rest =
    ends_are e ∙ ap (λ x. flat_map ends x ++ e ∷ []) (around (parts e) k d at) ∙ ap (λ x. x ++ e ∷ []) (flat_map-append ends (take k (parts e)) (d ∷ drop (suc k) (parts e)))
    ∙ ap (λ x. x ++ e ∷ []) (sym (append_assoc front (ends d) (flat_map ends (drop (suc k) (parts e))))) ∙ append_assoc (front ++ ends d) (flat_map ends (drop (suc k) (parts e))) (e ∷ []) in
    let here : with_all ts (ends d) ≡ with_all before (front ++ ends d) = ap (λ x. with_all x (ends d)) reached.grown ∙ sym (with_all-append before front (ends d)) in
    refused_more (with_all ts (ends d)) (with_all before (ends e)) r
    (omega (arith, ap length here, with_all_longer before (front ++ ends d) rest, ap (λ x. length (with_all before x)) all)) h

eq_is : (a b : ℕ) → a ≡ b → (a == b) ≡ true
eq_is a b h = search rules

eq_not : (a b : ℕ) → a < b → (a == b) ≡ false
eq_not a b h = search rules

module _ (before ts : List Tree) (held held' : List Node) (ks : List ℕ) (e : Tree) (n : Node) (t : ℕ) (few : length (parts e) ≤ 8)
    (reached : Reached before held ts ks (parts e)) (made : n ≡ node (head_of ts e) ks) where
  pub node_is : n ≡ node_of ts e
  node_is = made ∙ ap (node (head_of ts e)) reached.args

  whole : with_all before (ends e) ≡ with_new ts e
  whole = ap (with_all before) (ends_are e) ∙ with_all-append before (flat_map ends (parts e)) (e ∷ []) ∙ ap (λ x. with_new x e) (sym reached.grown)

  found : contains ts e ≡ true → HasNode held (number ts e) n
  found there = held_at held ts reached.numbers e there ∙ ap Some (sym node_is)

  absent : contains ts e ≡ false → IsHeld held n → ⊥
  absent away q = no (sym (is_held held ts reached.numbers e few (q.0, q.1 ∙ ap Some node_is)) ∙ away)
    where
      no : true ≡ false → ⊥
      no q = cc

  fresh : (IsHeld held n → ⊥) → contains ts e ≡ false
  fresh h = by (contains ts e) refl
    where
      by : (b : Bool) → contains ts e ≡ b → contains ts e ≡ false
      by true q = absurd (h (number ts e, found q))
      by false q = q

  -- the node's number, and the list with it
  pub no_room : (length held ≡ 512) × (IsHeld held n → ⊥) × (held' ≡ held) → 512 < length (with_all before (ends e))
  no_room h =
      let long : with_all before (ends e) ≡ ts ++ e ∷ [] = whole ∙ ap (λ b. if b then ts else ts ++ e ∷ []) (fresh h.1) in
      omega (arith, ap length long, length-append ts (e ∷ []), h.0, length_held held ts reached.numbers)

  pub inserted : IsPool held → IsPool held' → HasNode held' t n → (IsHeld held n → held' ≡ held) → ((IsHeld held n → ⊥) → (length held < 512) × (held' ≡ held ++ n ∷ []))
      → (next : ℕ) → next ≡ length held → (ts' : List Tree) → ts' ≡ (if t == next then ts ++ e ∷ [] else ts) → IsInserted before e held' ts' t
  inserted pool pool' here old new next last ts' listed = by (contains ts e) refl
    where
      by : (b : Bool) → contains ts e ≡ b → IsInserted before e held' ts' t
      by true there =
          let same : held' ≡ held = old (number ts e, found there) in
          let at : t ≡ number ts e = pool.apart t (number ts e) n (subst (λ ns. HasNode ns t n) same here) (found there) in
          let list : ts' ≡ ts = listed ∙ ap (λ b. if b then ts ++ e ∷ [] else ts) (eq_not t next (omega (arith, at, last, length_held held ts reached.numbers, number_within ts e there))) in
          subst (λ x. IsInserted before e held' x t) (sym list) (subst (λ ns. IsInserted before e ns ts t) (sym same) (record {
            numbers = reached.numbers;
            grown = sym (ap (λ b. if b then ts else ts ++ e ∷ []) there) ∙ sym whole;
            number = at;
            has = there;
          }))
      by false away =
          let more = new (absent away) in
          let at : t ≡ length held = pool'.apart t (length held) n here (ap (λ ns. slice_get ns (length held)) more.1 ∙ get_last held n) in
          let list : ts' ≡ ts ++ e ∷ [] = listed ∙ ap (λ b. if b then ts ++ e ∷ [] else ts) (eq_is t next (omega (arith, at, last))) in
          let nodes : held' ≡ held ++ node_of ts e ∷ [] = more.1 ∙ ap (λ n. held ++ n ∷ []) node_is in
          subst (λ x. IsInserted before e held' x t) (sym list) (subst (λ ns. IsInserted before e ns (ts ++ e ∷ []) t) (sym nodes) (record {
            numbers = numbers_with held ts reached.numbers e away reached.has;
            grown = sym (ap (λ b. if b then ts else ts ++ e ∷ []) away) ∙ sym whole;
            number = at ∙ length_held held ts reached.numbers ∙ sym (number_absent ts e away) ∙ sym (number_last ts e);
            has = has_last ts e;
          }))

-- the same for expressions in a row
pub listed_full : (before ts : List Tree) (ds : List Expr) (d : Expr) (k : ℕ) (held : List Node) (ks : List ℕ) (r : Refused) → Reached before held ts ks (map tree (take k ds)) → k < length ds → d ≡ get_or ds k d
    → IsTooMany (with_all ts (ends (tree d))) r → IsTooMany (with_all before (flat_map ends (map tree ds))) r
listed_full before ts ds d k held ks r reached below is h =
    let front = flat_map ends (map tree (take k ds)) in
    let rest = flat_map ends (map tree (drop (suc k) ds)) in
    let all : flat_map ends (map tree ds) ≡ (front ++ ends (tree d)) ++ rest =
    ap (λ x. flat_map ends (map tree x)) (around ds k d (slice_get_read ds (length ds) k d refl below is))
    ∙ ap (flat_map ends) (map-append tree (take k ds) (d ∷ drop (suc k) ds))
    ∙ flat_map-append ends (map tree (take k ds)) (tree d ∷ map tree (drop (suc k) ds))
    ∙ sym (append_assoc front (ends (tree d)) rest) in
    let here : with_all ts (ends (tree d)) ≡ with_all before (front ++ ends (tree d)) = ap (λ x. with_all x (ends (tree d))) reached.grown ∙ sym (with_all-append before front (ends (tree d))) in
    refused_more (with_all ts (ends (tree d))) (with_all before (flat_map ends (map tree ds))) r
    (omega (arith, ap length here, with_all_longer before (front ++ ends (tree d)) rest, ap (λ x. length (with_all before x)) all)) h

pub take_trees : (ds : List Expr) (k : ℕ) (d : Expr) → k < length ds → d ≡ get_or ds k d → map tree (take (k + 1) ds) ≡ map tree (take k ds) ++ tree d ∷ []
take_trees ds k d below is = ap (map tree) (take_one ds k d (slice_get_read ds (length ds) k d refl below is)) ∙ map-append tree (take k ds) (d ∷ [])

-- all that a formula says, from TRUE and FALSE on
subterms_split : (hs : List Tree) (g : Tree) → subterms (hs ++ g ∷ []) ≡ with_all (with_all truths (flat_map ends hs)) (ends g)
subterms_split hs g = ap (with_all truths) (flat_map-append ends hs (g ∷ []) ∙ ap (λ x. flat_map ends hs ++ x) (append-nil (ends g))) ∙ with_all-append truths (flat_map ends hs) (ends g)

module _ (before : List Tree) (start : before ≡ truths) (hs : List Tree) (g : Tree) where
  pub front_refused : (r : Refused) → IsTooMany (with_all before (flat_map ends hs)) r → IsTooMany (subterms (hs ++ g ∷ [])) r
  front_refused r h =
      let up = with_all_grows (with_all truths (flat_map ends hs)) (ends g) in
      let first : with_all before (flat_map ends hs) ≡ with_all truths (flat_map ends hs) = ap (λ x. with_all x (flat_map ends hs)) start in
      refused_more (with_all before (flat_map ends hs)) (subterms (hs ++ g ∷ [])) r
      (omega (arith, ap length first, ap length (subterms_split hs g ∙ up.1), length-append (with_all truths (flat_map ends hs)) up.0)) h

  pub goal_refused : (ts : List Tree) (r : Refused) → ts ≡ with_all before (flat_map ends hs) → IsTooMany (with_all ts (ends g)) r → IsTooMany (subterms (hs ++ g ∷ [])) r
  goal_refused ts r grown h = subst (λ x. IsTooMany x r) (ap (λ x. with_all x (ends g)) (grown ∙ ap (λ x. with_all x (flat_map ends hs)) start) ∙ sym (subterms_split hs g)) h

  -- together these are the subterms of all
  pub all_terms : (ts us : List Tree) → ts ≡ with_all before (flat_map ends hs) → us ≡ with_all ts (ends g) → us ≡ subterms (hs ++ g ∷ [])
  all_terms ts us grown inserted_goal = inserted_goal ∙ ap (λ x. with_all x (ends g)) (grown ∙ ap (λ x. with_all x (flat_map ends hs)) start) ∙ sym (subterms_split hs g)

  pub all_fit : (ts us : List Tree) (held : List Node) → ts ≡ with_all before (flat_map ends hs) → us ≡ with_all ts (ends g) → Numbers held us → IsPool held → length (subterms (hs ++ g ∷ [])) ≤ 512
  all_fit ts us held grown inserted_goal numbers pool =
      omega (arith, pool.few, length_held held us numbers, ap length (all_terms ts us grown inserted_goal))
