-- A chain with its laws as one value, and the steps of its reader.
use Rattle.std.proofs.Common.{ℕ, suc, zero, ◌≤◌, max, false, IsTrue, List, [], ◌++◌, arith}
use Rattle.sp_grammar.specs.Lang.{Lang, nothing, has, apart, subset, binary, Measures, Exceeds, Refusal, stops, exceeds, Refuses}
use Rattle.sp_grammar.proofs.Laws.{Fine}
use Rattle.sp_grammar.proofs.Lists.{fine_more}
use Rattle.sp_grammar.proofs.Chain.{Sub, Ways, fine_binary, within_chain}
use Rattle.sp_grammar.proofs.Steps as steps

pub record Chain (at : ℕ → ℕ) (V : Type 0) : Type 1 where
  pub ops : List ℕ
  pub make : ℕ → V → V → ℕ → ℕ → V
  pub first : List ℕ
  pub more : List ℕ
  pub operand : ℕ → Lang V
  pub form : ℕ → Lang V
  pub ways : Ways at first more operand
  pub clear : IsTrue (apart more ops)
  pub out : (b : ℕ) → Sub (form (suc b)) (binary at ops make (operand (suc b)) (form b) (operand b))
  pub back : (b : ℕ) → Sub (binary at ops make (operand (suc b)) (form b) (operand b)) (form (suc b))
  pub none : Sub (form zero) nothing
  pub single : (b : ℕ) → Sub (operand b) (form b)
  pub grows : (b : ℕ) → Sub (form b) (form (suc b))

module _ (at : ℕ → ℕ) {V : Type 0} (C : Chain at V) where
  abbrev Op : ℕ → Type 0
  Op k = IsTrue (has C.ops (at k))

  -- the chain that begins at i is read up to k, as v of height h
  abbrev pub Along : ℕ → V → ℕ → ℕ → Type 0
  Along = steps.Along at C.ops C.make C.first C.more C.operand C.form C.ways C.clear C.out C.back C.none C.single C.grows

  pub chain_begin : (b h i k : ℕ) (v : V) → Measures C.operand b v h i k → Along h v i k
  chain_begin b h i k v M = steps.begin at C.ops C.make C.first C.more C.operand C.form C.ways C.clear C.out C.back C.none C.single C.grows b v h i k M

  pub chain_first_refuses : (b i : ℕ) (r : Refusal) → Refuses C.operand b i r → Refuses C.form b i r
  chain_first_refuses b i (stops n) S = steps.first_stops at C.ops C.make C.first C.more C.operand C.form C.ways C.clear C.out C.back C.none C.single C.grows b i n S
  chain_first_refuses b i (exceeds n) S = steps.first_exceeds at C.ops C.make C.first C.more C.operand C.form C.ways C.clear C.out C.back C.none C.single C.grows b i n S

  module _ (h : ℕ) (l : V) (i k : ℕ) (A : Along h l i k) where
    pub chain_stop : (b : ℕ) → h ≤ b → (Op k → ⊥) → Measures C.form b l h i k
    chain_stop b f off = steps.stop at C.ops C.make C.first C.more C.operand C.form C.ways C.clear C.out C.back C.none C.single C.grows h l i k A b f off

    module _ (o : Op k) where
      pub chain_step : (b h2 j : ℕ) (r : V) → Measures C.operand b r h2 (suc k) j → Along (suc (max h h2)) (C.make (at k) l r i j) i j
      chain_step b h2 j r M = steps.step at C.ops C.make C.first C.more C.operand C.form C.ways C.clear C.out C.back C.none C.single C.grows h l i k A o b h2 j r M

      pub chain_high : (b : ℕ) → h ≤ b → b ≤ h → Exceeds C.form b i k
      chain_high b f g = steps.high at C.ops C.make C.first C.more C.operand C.form C.ways C.clear C.out C.back C.none C.single C.grows h l i k A o b f g

      pub chain_right_refuses : (b : ℕ) (r : Refusal) → h ≤ b → Refuses C.operand b (suc k) r → Refuses C.form (suc b) i r
      chain_right_refuses b (stops n) f S = steps.right_stops at C.ops C.make C.first C.more C.operand C.form C.ways C.clear C.out C.back C.none C.single C.grows h l i k A o b n f S
      chain_right_refuses b (exceeds n) f S = steps.right_exceeds at C.ops C.make C.first C.more C.operand C.form C.ways C.clear C.out C.back C.none C.single C.grows h l i k A o b n f S

-- The laws of a chain within a budget, from those of its parts.
pub fine_chain : {V : Type 0} (at : ℕ → ℕ) (ops : List ℕ) (make : ℕ → V → V → ℕ → ℕ → V) (first more wide : List ℕ) (F G : ℕ → Lang V)
    → IsTrue (apart (more ++ []) (ops ++ [])) → IsTrue (apart more (ops ++ [])) → IsTrue (subset (first ++ []) first) → IsTrue (subset (((more ++ []) ++ (ops ++ [])) ++ more) wide)
    → ((b : ℕ) → Sub (G (suc b)) (binary at ops make (F (suc b)) (G b) (F b))) → ((b : ℕ) → Sub (binary at ops make (F (suc b)) (G b) (F b)) (G (suc b))) → Sub (G zero) nothing
    → ((b : ℕ) → Sub (F b) (F (suc b))) → ((b : ℕ) → Sub (G b) (G (suc b)))
    → (b : ℕ) → Fine at false first more (F (suc b)) → Fine at false first more (F b) → Fine at false first wide (G b)
    → Fine at false first wide (binary at ops make (F (suc b)) (G b) (F b))
fine_chain at ops make first more wide F G clear clear2 s t out back none f_grows g_grows b H H0 H1 =
    fine_more at false (first ++ []) (((more ++ []) ++ (ops ++ [])) ++ more) first wide (binary at ops make (F (suc b)) (G b) (F b)) s t
    (fine_binary at ops make first more (F (suc b)) (G b) (F b) H
    (λ v i j n w h u. (out b).part i n ((g_grows b).part i n (H1.closed v i j n w h u)))
    H0.closed H0.closed_part clear clear2
    (within_chain at ops make F G f_grows out none b (suc b) (omega arith))
    (f_grows b))
