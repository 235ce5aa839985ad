-- Nodes and the records that spell them: what is held, and a pool with one more node, or with the last ones given up.
use Rattle.std.proofs.Common.{◌≡◌, ℕ, zero, suc, ◌+◌, ◌-◌, ◌<◌, ◌≤◌, ⊎_elim, inl, inr, true, false, List, [], ◌∷◌, ◌++◌, length, take, map, min, get_or, Option, Some, None, Result, Ok, Err, refl, sym, ap, ◌∙◌, subst, arith}
use Rattle.std.specs.List.{slice_get, All}
use Rattle.std.specs.Option.{option_map}
use Rattle.std.proofs.lemmas.List.{length-map, map_push}
use Rattle.std.proofs.lemmas.List.Sums.{sum_by-le}
use Rattle.std.proofs.lemmas.Option.{none-some, same_Some, slice_get-map, slice_get-get_or}
use Rattle.sp_pool.specs.declared.node.Node.{Node}
use Rattle.sp_pool.specs.declared.node.Full.{Full}
use Rattle.sp_pool.specs.Index.{IsIndex, IsInterned}
use Rattle.sp_pool.specs.Kept.{IsKept}
use Rattle.sp_pool.specs.Nodes.{HasNode, IsGrown, IsHeld, IsNode, IsPool, truth_node}
use Rattle.sp_pool.specs.Records.{HasRoom}
use Rattle.sp_pool.specs.Spelling.{AreSpelled, IsTidy, node_of, spelling}
use Rattle.sp_pool.proofs.NodeLaws.{get_last, get_pushed, get_taken, pool_more, truths, truths_apart, truths_pool, two}
use Rattle.sp_pool.proofs.Spellings.{read_count, read_eight, spelling_length}

-- the record behind a node
record_behind : (records : List (List ℕ)) (i : ℕ) (n : Node) → HasNode (map node_of records) i n → (words : List ℕ) × (slice_get records i ≡ Some words) × (node_of words ≡ n)
record_behind records i n e = behind (slice_get records i) refl
  where
    behind : (o : Option (List ℕ)) → slice_get records i ≡ o → (words : List ℕ) × (slice_get records i ≡ Some words) × (node_of words ≡ n)
    behind None f = absurd (none-some n (sym (slice_get-map node_of records i ∙ ap (option_map node_of) f) ∙ e))
    behind (Some words) f = (words, f, same_Some (node_of words) n (sym (slice_get-map node_of records i ∙ ap (option_map node_of) f) ∙ e))

-- a held node stands as its spelling
pub spelled_at : (records : List (List ℕ)) → AreSpelled records → (i : ℕ) (n : Node) → HasNode (map node_of records) i n → slice_get records i ≡ Some (spelling n)
spelled_at records are i n e =
    let behind = record_behind records i n e in
    behind.1 ∙ ap Some (sym (are i behind.0 behind.1) ∙ ap spelling behind.2)

-- a record with a node's spelling is the node
pub node_at : (records : List (List ℕ)) (i : ℕ) (n : Node) → node_of (spelling n) ≡ n → slice_get records i ≡ Some (spelling n) → HasNode (map node_of records) i n
node_at records i n back e = slice_get-map node_of records i ∙ ap (option_map node_of) e ∙ ap Some back

-- a record's length
module _ (words : List ℕ) (spelled : spelling (node_of words) ≡ words) where
  counted : length words ≡ 3 + min (length words - 3) 8
  counted = sym (ap length spelled) ∙ spelling_length (node_of words) ∙ ap (λ m. 3 + min m (length (node_of words).args)) (read_count words) ∙ ap (λ m. 3 + min (length words - 3) m) (read_eight words)

  pub some_words : 3 ≤ length words
  some_words = omega (arith, counted)

  pub few_words : length words ≤ 11
  few_words = omega (arith, counted)

-- spelled records leave room for one more below 512
pub room_for : (records : List (List ℕ)) (count : ℕ) → AreSpelled records → length records < 512 → count ≤ 11
    → HasRoom (record { records = records; most_words = 6144; most_records = 512 }) count
room_for records count are below few = record {
  words = omega (arith, sum_by-le length 11 records short, below, few);
  one_more = below;
}
  where
    short : All (λ words. length words ≤ 11) records
    short k d inside = few_words (get_or records k d) (are k (get_or records k d) (slice_get-get_or records k d inside))

-- the constants' nodes, and those that a caller makes, are tidy
pub tidy_node : (held : ℕ) (n : Node) → IsNode held n → IsTidy n
tidy_node held n fine = record { few = fine.few; padded = fine.padded }

-- one record more, and the first records
pub spelled_more : (records : List (List ℕ)) (words : List ℕ) → AreSpelled records → spelling (node_of words) ≡ words → AreSpelled (records ++ words ∷ [])
spelled_more records words are spelled i ws e =
    ⊎_elim (are i ws) (λ (h : (i ≡ length records) × (words ≡ ws)). subst (λ vs. spelling (node_of vs) ≡ vs) h.1 spelled) (get_pushed records words ws i e)

pub spelled_less : (records : List (List ℕ)) (m : ℕ) → AreSpelled records → AreSpelled (take m records)
spelled_less records m are i ws e = are i ws (get_taken m records i ws e)

-- what interning a node's spelling says of the nodes
module _ (old new : List (List ℕ)) (n : Node) (are : AreSpelled old) (back : node_of (spelling n) ≡ n) where
  absent_node : ((i : ℕ) → slice_get old i ≡ Some (spelling n) → ⊥) → IsHeld (map node_of old) n → ⊥
  absent_node h held = h held.0 (spelled_at old are held.0 n held.1)

  pushed_nodes : new ≡ old ++ spelling n ∷ [] → map node_of new ≡ map node_of old ++ n ∷ []
  pushed_nodes e = ap (map node_of) e ∙ map_push node_of old (spelling n) ∙ ap (λ m. map node_of old ++ m ∷ []) back

  count_nodes : length (map node_of old) ≡ length old
  count_nodes = length-map old node_of

  pub interned_here : (k : ℕ) → IsInterned old new (spelling n) (Ok k) → HasNode (map node_of new) k n
  interned_here k (inl h) = subst (λ rs. HasNode (map node_of rs) k n) (sym h.0) (node_at old k n back h.1)
  interned_here k (inr h) =
      subst (λ nodes. HasNode nodes k n) (sym (pushed_nodes h.2))
      (subst (λ i. HasNode (map node_of old ++ n ∷ []) i n) (count_nodes ∙ sym h.3) (get_last (map node_of old) n))

  pub interned_held : (r : Result ℕ Full) → IsInterned old new (spelling n) r → IsHeld (map node_of old) n → map node_of new ≡ map node_of old
  interned_held (Ok k) (inl h) held = ap (map node_of) h.0
  interned_held (Ok k) (inr h) held = absurd (absent_node h.0 held)
  interned_held (Err fault) h held = absurd (absent_node h.0 held)

  pub interned_next : (k : ℕ) → IsInterned old new (spelling n) (Ok k) → (IsHeld (map node_of old) n → ⊥)
      → (length (map node_of old) < 512) × (map node_of new ≡ map node_of old ++ n ∷ [])
  interned_next k (inl h) fresh = absurd (fresh (k, node_at old k n back h.1))
  interned_next k (inr h) fresh = (omega (arith, h.1, count_nodes), pushed_nodes h.2)

  pub interned_full : (fault : Full) → IsInterned old new (spelling n) (Err fault)
      → (length (map node_of old) ≡ 512) × (IsHeld (map node_of old) n → ⊥) × (map node_of new ≡ map node_of old)
  interned_full fault h = (count_nodes ∙ h.1, absent_node h.0, ap (map node_of) h.2)

  pub interned_grown : (r : Result ℕ Full) → IsInterned old new (spelling n) r → IsGrown (map node_of old) n (map node_of new)
  interned_grown (Ok k) (inl h) = inl (ap (map node_of) h.0)
  interned_grown (Ok k) (inr h) = inr (pushed_nodes h.2)
  interned_grown (Err fault) h = inl (ap (map node_of) h.2)

  interned_spelled : (r : Result ℕ Full) → IsInterned old new (spelling n) r → AreSpelled new
  interned_spelled (Ok k) (inl h) = subst AreSpelled (sym h.0) are
  interned_spelled (Ok k) (inr h) = subst AreSpelled (sym h.2) (spelled_more old (spelling n) are (ap spelling back))
  interned_spelled (Err fault) h = subst AreSpelled (sym h.2) are

  pub interned_kept : (r : Result ℕ Full) → IsInterned old new (spelling n) r → IsPool (map node_of old) → IsNode (length (map node_of old)) n → length n.args ≡ 8
      → (slots : List (Option ℕ)) (most_words most_records : ℕ) → IsIndex new slots → (most_words ≡ 6144) × (most_records ≡ 512) → IsKept new slots most_words most_records
  interned_kept r h pool fine eight slots most_words most_records index sizes = record {
    nodes = nodes r h;
    spelled = interned_spelled r h;
    index = index;
    words_fixed = sizes.0;
    records_fixed = sizes.1;
  }
    where
      nodes : (r : Result ℕ Full) → IsInterned old new (spelling n) r → IsPool (map node_of new)
      nodes (Ok k) (inl i) = subst (λ rs. IsPool (map node_of rs)) (sym i.0) pool
      nodes (Ok k) (inr i) = subst IsPool (sym (pushed_nodes i.2)) (pool_more (map node_of old) pool (two pool) n fine eight (absent_node i.0) (omega (arith, i.1, count_nodes)))
      nodes (Err fault) i = subst (λ rs. IsPool (map node_of rs)) (sym i.2) pool

-- the two constants
first_number : (new : List (List ℕ)) (words : List ℕ) (r : Result ℕ Full) → IsInterned [] new words r → new ≡ words ∷ []
first_number new words (Ok k) (inl h) = absurd (none-some words h.1)
first_number new words (Ok k) (inr h) = h.2
first_number new words (Err fault) h = absurd (omega (arith, h.1))

second_number : (new : List (List ℕ)) (one other : List ℕ) (r : Result ℕ Full) → (one ≡ other → ⊥) → IsInterned (one ∷ []) new other r → new ≡ one ∷ other ∷ []
second_number new one other (Ok zero) apart (inl h) = absurd (apart (same_Some one other h.1))
second_number new one other (Ok (suc k)) apart (inl h) = absurd (none-some other h.1)
second_number new one other (Ok k) apart (inr h) = h.2
second_number new one other (Err fault) apart h = absurd (omega (arith, h.1))

-- interning the constants in an empty region
module _ (old first : List (List ℕ)) (empty : old ≡ []) (r : Result ℕ Full) (true_back : node_of (spelling (truth_node true)) ≡ truth_node true)
    (interned : IsInterned old first (spelling (truth_node true)) r) where
  pub first_is : first ≡ spelling (truth_node true) ∷ []
  first_is = first_number first (spelling (truth_node true)) r (subst (λ rs. IsInterned rs first (spelling (truth_node true)) r) empty interned)

  pub first_few : length first ≤ 512
  first_few = omega (arith, ap length first_is)

  pub first_spelled : AreSpelled first
  first_spelled = interned_spelled old first (truth_node true) (subst AreSpelled (sym empty) (λ k words e. absurd (none-some words e))) true_back r interned

  module _ (second : List (List ℕ)) (s : Result ℕ Full) (false_back : node_of (spelling (truth_node false)) ≡ truth_node false) (again : IsInterned first second (spelling (truth_node false)) s) where
    spellings_apart : spelling (truth_node true) ≡ spelling (truth_node false) → ⊥
    spellings_apart e = truths_apart (sym true_back ∙ ap node_of e ∙ false_back)

    second_is : second ≡ spelling (truth_node true) ∷ spelling (truth_node false) ∷ []
    second_is = second_number second (spelling (truth_node true)) (spelling (truth_node false)) s spellings_apart
        (subst (λ rs. IsInterned rs second (spelling (truth_node false)) s) first_is again)

    pub nodes_are : map node_of second ≡ truths
    nodes_are = ap (map node_of) second_is ∙ ap (λ n. n ∷ node_of (spelling (truth_node false)) ∷ []) true_back ∙ ap (λ n. truth_node true ∷ n ∷ []) false_back

    pub truths_kept : (slots : List (Option ℕ)) (most_words most_records : ℕ) → IsIndex second slots → (most_words ≡ 6144) × (most_records ≡ 512) → IsKept second slots most_words most_records
    truths_kept slots most_words most_records index sizes = record {
      nodes = subst IsPool (sym nodes_are) truths_pool;
      spelled = interned_spelled first second (truth_node false) first_spelled false_back s again;
      index = index;
      words_fixed = sizes.0;
      records_fixed = sizes.1;
    }
