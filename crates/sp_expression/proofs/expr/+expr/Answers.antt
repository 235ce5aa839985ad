-- Each return of the readers is one step of the lines that they read.
use Rattle.std.proofs.Common.{rules, SFits, w64, ◌≡◌, ℕ, suc, ◌+◌, ◌-◌, ◌≤◌, max, false, true, IfSome, IfNone, [], ◌∷◌, ◌++◌, Option, Some, slice_get, ap, sym, ◌∙◌, refl, subst, arith}
use Rattle.std.proofs.lemmas.Int.{ints}
use Rattle.std.proofs.lemmas.Result.{err_from_is_err_and, MatchResult-weaker}
use Rattle.sp_text.specs.declared.token.TokenKind.TheVariants as kind
use Rattle.sp_tree.specs.declared.names.Ident.{Ident}
use Rattle.sp_grammar.specs.Lang.{Measures, Refuses}
use Rattle.sp_grammar.specs.Codes.{name_code, left_parenthesis, comma, colon, minus, word_if, word_then, word_else}
use Rattle.sp_grammar.proofs.Chains.{Along, chain_begin, chain_first_refuses, chain_stop, chain_step, chain_high, chain_right_refuses}
use Rattle.sp_grammar.proofs.Pairs.{pair_first_refuses, pair_stop, pair_high, pair_right_refuses, pair_reads}
use Rattle.sp_expression.specs.Grammar.{at, primary, comparison, negation, expression, binary_tree, not_tree, formal_line, number_line, tree}
use Rattle.sp_expression.specs.Levels.{chain_form, operand_form, pair_form, pair_operand, pair_right}
use Rattle.sp_expression.specs.Marks.{mark_code}
use Rattle.sp_expression.proofs.Laws.{ident_code}
use Rattle.sp_expression.proofs.Leaves.{fails_by}
use Rattle.sp_expression.proofs.Levels.{chain_of, pair_of}
use Rattle.sp_expression.proofs.Steps.{Behind, Args, behind_high, behind_passes, number_leaf, number_reads, number_refuses, constant_reads, no_primary, none_first, name_reads, call_reads, call_refuses, new_no_name, new_no_args, new_refuses, new_reads, paren_refuses, paren_open, paren_reads, if_refuses, then_refuses, else_refuses, if_open, if_reads, join_high, left_refuses, right_refuses, join_open, join_reads, quant_high, variable_refuses, body_refuses, quant_open, quant_reads, plain, not_high, not_passes, no_args, args_stop, args_high, head_refuses, item_refuses, args_open, args_reads, one_more_arg}
use Rattle.sp_expression.proofs.expr.+expr.Goals as goal

pub parse_chain-returns-in_err-first-clause-reads : goal.parse_chain-returns-in_err-first-clause-reads
parse_chain-returns-in_err-first-clause-reads t c =
    let ts = c.args.tokens.now in
    let b = c.args.budget in
    let i = c.args.start in
    let L = c.args.chain in
    let p = err_from_is_err_and c.from_residual.result c.from_residual.ensures.1 in
    rw (p.1, p.2) (fails_by (operand_form ts L) (chain_form ts L) b b ts c.args.end i i _ (λ r S. chain_first_refuses (at ts) (chain_of ts L) b i r S) c.in_err-first.ensures.reads)

pub parse_chain-loop-alloc-init : goal.parse_chain-loop-alloc-init
parse_chain-loop-alloc-init t c =
    let ts = c.args.tokens.now in
    let b = c.args.budget in
    let i = c.args.start in
    let x = c.in_ok-first.ensures in
    record {
      along = chain_begin (at ts) (chain_of ts c.args.chain) b _ i _ _ x.reads;
      fits = x.reads.fits;
      moves = x.moves;
      within = x.within;
    }

pub parse_chain-returns-then-height-budget-clause-reads : goal.parse_chain-returns-then-height-budget-clause-reads
parse_chain-returns-then-height-budget-clause-reads t c =
    let ts = c.args.tokens.now in
    let b = c.args.budget in
    let i = c.args.start in
    let l = c.loop-alloc in
    let L = c.args.chain in
    let C = chain_of ts L in
    let o = sym c.loop-alloc-test.ensures in
    rw c.too_high.ensures (l.next, chain_high (at ts) C l.height l.left i l.next l.invariant.along o b l.invariant.fits c.if-height-budget.true, refl)

pub parse_chain-returns-in_err-right-clause-reads : goal.parse_chain-returns-in_err-right-clause-reads
parse_chain-returns-in_err-right-clause-reads t c =
    let ts = c.args.tokens.now in
    let b = c.args.budget in
    let i = c.args.start in
    let l = c.loop-alloc in
    let L = c.args.chain in
    let C = chain_of ts L in
    let o = sym c.loop-alloc-test.ensures in
    let e : b ≡ suc (b - 1) = omega (arith, c.requires.budget) in
    let f : l.next + 1 ≡ suc l.next = omega arith in
    let g : l.height ≤ b - 1 = omega arith in
    let p = err_from_is_err_and c.from_residual-in_err-right.result c.from_residual-in_err-right.ensures.1 in
    rw (p.1, p.2) (fails_by (operand_form ts L) (chain_form ts L) (b - 1) b ts c.args.end (l.next + 1) i _ (λ r S. subst (λ z. Refuses (chain_form ts L) z i r) (sym e) (chain_right_refuses (at ts) C l.height l.left i l.next l.invariant.along o (b - 1) r g (subst (λ z. Refuses (operand_form ts L) (b - 1) z r) f S))) c.in_err-right.ensures.reads)

pub parse_chain-loop-alloc-preserved : goal.parse_chain-loop-alloc-preserved
parse_chain-loop-alloc-preserved t c =
    let ts = c.args.tokens.now in
    let b = c.args.budget in
    let i = c.args.start in
    let l = c.loop-alloc in
    let L = c.args.chain in
    let C = chain_of ts L in
    let o = sym c.loop-alloc-test.ensures in
    let r = c.in_ok-right.right in
    let x = c.in_ok-right.ensures in
    let f : l.next + 1 ≡ suc l.next = omega arith in
    let mx : c.larger-height.result ≡ max l.height r.height = c.larger-height.ensures in
    let h : suc (max l.height r.height) ≡ c.larger-height.result + 1 = omega (arith, mx) in
    record {
      along = subst (λ z. Along (at ts) C (c.larger-height.result + 1) z i r.next) (sym c.in_ok-left.ensures)
          (subst (λ z. Along (at ts) C z (binary_tree ts (at ts l.next) l.left r.tree i r.next) i r.next) h
          (chain_step (at ts) C l.height l.left i l.next l.invariant.along o (b - 1) r.height r.next r.tree
          (subst (λ z. Measures (operand_form ts L) (b - 1) r.tree r.height z r.next) f x.reads)));
      fits = let h1 = x.reads.fits in let h2 = l.invariant.fits in let q = c.if-height-budget.false in omega (arith, mx);
      moves = let m1 = x.moves in let m2 = l.invariant.moves in omega arith;
      within = x.within;
    }

pub parse_chain-returns-clause-reads : goal.parse_chain-returns-clause-reads
parse_chain-returns-clause-reads t c =
    let ts = c.args.tokens.now in
    let b = c.args.budget in
    let i = c.args.start in
    let l = c.loop-alloc in
    chain_stop (at ts) (chain_of ts c.args.chain) l.height l.left i l.next l.invariant.along b l.invariant.fits (λ h. let x : false ≡ true = c.loop-alloc-test.ensures ∙ h in cc)

pub parse_pair-returns-in_err-left-clause-reads : goal.parse_pair-returns-in_err-left-clause-reads
parse_pair-returns-in_err-left-clause-reads t c =
    let ts = c.args.tokens.now in
    let b = c.args.budget in
    let i = c.args.start in
    let P = c.args.pair in
    let Q = pair_of ts P in
    let G = pair_operand P in
    let p = err_from_is_err_and c.from_residual.result c.from_residual.ensures.1 in
    rw (p.1, p.2) (fails_by (chain_form ts G) (pair_form ts P) b b ts c.args.end i i _ (λ r S. pair_first_refuses (at ts) Q b i r S) (rw c.operand-side.ensures at c.in_err-left.ensures.reads))

pub parse_pair-returns-then-not-is_pair_operator-clause-reads : goal.parse_pair-returns-then-not-is_pair_operator-clause-reads
parse_pair-returns-then-not-is_pair_operator-clause-reads t c =
    let ts = c.args.tokens.now in
    let b = c.args.budget in
    let i = c.args.start in
    let P = c.args.pair in
    let Q = pair_of ts P in
    let G = pair_operand P in
    let v = c.in_ok-left.left in
    let M : Measures (chain_form ts G) b v.tree v.height i v.next = rw c.operand-side.ensures at c.in_ok-left.ensures.reads in
    pair_stop (at ts) Q b v.height v.tree i v.next M b M.fits (λ h. let x : false ≡ true = c.if-not-is_pair_operator.ensures ∙ h in cc)

pub parse_pair-returns-then-left-budget-clause-reads : goal.parse_pair-returns-then-left-budget-clause-reads
parse_pair-returns-then-left-budget-clause-reads t c =
    let ts = c.args.tokens.now in
    let b = c.args.budget in
    let i = c.args.start in
    let P = c.args.pair in
    let Q = pair_of ts P in
    let G = pair_operand P in
    let v = c.in_ok-left.left in
    let M : Measures (chain_form ts G) b v.tree v.height i v.next = rw c.operand-side.ensures at c.in_ok-left.ensures.reads in
    rw c.too_high.ensures (v.next, pair_high (at ts) Q b v.height v.tree i v.next M (sym c.if-not-is_pair_operator.ensures) b M.fits c.if-left-budget.true, refl)

pub parse_pair-returns-in_err-right-clause-reads : goal.parse_pair-returns-in_err-right-clause-reads
parse_pair-returns-in_err-right-clause-reads t c =
    let ts = c.args.tokens.now in
    let b = c.args.budget in
    let i = c.args.start in
    let P = c.args.pair in
    let Q = pair_of ts P in
    let G = pair_operand P in
    let v = c.in_ok-left.left in
    let M : Measures (chain_form ts G) b v.tree v.height i v.next = rw c.operand-side.ensures at c.in_ok-left.ensures.reads in
    let e : b ≡ suc (b - 1) = omega (arith, c.requires.budget) in
    let f : v.next + 1 ≡ suc v.next = omega arith in
    let q = c.if-left-budget.false in
    let g : v.height ≤ b - 1 = omega arith in
    let p = err_from_is_err_and c.from_residual-in_err-right.result c.from_residual-in_err-right.ensures.1 in
    rw (p.1, p.2) (fails_by (pair_right ts P) (pair_form ts P) (b - 1) b ts c.args.end (v.next + 1) i _ (λ r S. subst (λ z. Refuses (pair_form ts P) z i r) (sym e) (pair_right_refuses (at ts) Q b v.height v.tree i v.next M (sym c.if-not-is_pair_operator.ensures) (b - 1) r g (subst (λ z. Refuses (pair_right ts P) (b - 1) z r) f S))) c.in_err-right.ensures.reads)

pub parse_pair-returns-clause-reads : goal.parse_pair-returns-clause-reads
parse_pair-returns-clause-reads t c =
    let ts = c.args.tokens.now in
    let b = c.args.budget in
    let i = c.args.start in
    let P = c.args.pair in
    let Q = pair_of ts P in
    let G = pair_operand P in
    let v = c.in_ok-left.left in
    let M : Measures (chain_form ts G) b v.tree v.height i v.next = rw c.operand-side.ensures at c.in_ok-left.ensures.reads in
    let e : b ≡ suc (b - 1) = omega (arith, c.requires.budget) in
    let f : v.next + 1 ≡ suc v.next = omega arith in
    let q = c.if-left-budget.false in
    let g : v.height ≤ b - 1 = omega arith in
    let r = c.in_ok-right.right in
    let N = c.in_ok-right.ensures.reads in
    let h : suc (max v.height r.height) ≡ c.larger.result + 1 = omega (arith, c.larger.ensures) in
    rw c.in_ok-tree.ensures (subst (λ z. Measures (pair_form ts P) z (binary_tree ts (at ts v.next) v.tree r.tree i r.next) (c.larger.result + 1) i r.next) (sym e)
    (subst (λ z. Measures (pair_form ts P) (suc (b - 1)) (binary_tree ts (at ts v.next) v.tree r.tree i r.next) z i r.next) h
    (pair_reads (at ts) Q b v.height v.tree i v.next M (sym c.if-not-is_pair_operator.ensures) (b - 1) r.height r.next r.tree g (subst (λ z. Measures (pair_right ts P) (b - 1) r.tree r.height z r.next) f N))))

pub parse_not-returns-then-not-is-clause-reads : goal.parse_not-returns-then-not-is-clause-reads
parse_not-returns-then-not-is-clause-reads t c =
    let ts = c.args.tokens.now in
    let b = c.args.budget in
    let i = c.args.start in
    let on = plain ts b i (λ y. let z : false ≡ true = c.if-not-is.ensures.same.1 y in cc) in
    MatchResult-weaker c.parse_pair.result c.parse_pair.ensures.reads (λ x M. on.reads x.tree x.height x.next M) (λ x F. fails_by (comparison ts) (negation ts) b b ts c.args.end i i x on.refuses F)

pub parse_not-returns-then-budget-lt2-clause-reads : goal.parse_not-returns-then-budget-lt2-clause-reads
parse_not-returns-then-budget-lt2-clause-reads t c =
    let ts = c.args.tokens.now in
    let b = c.args.budget in
    let i = c.args.start in
    let e : b ≡ suc (b - 1) = omega (arith, c.requires.budget) in
    let o = c.if-not-is.ensures.same.0 refl in
    rw c.too_high.ensures (i, not_high ts b i o (b - 1) e (let q = c.if-budget-lt2.true in omega arith), refl)

pub parse_not-returns-in_err-inner-clause-reads : goal.parse_not-returns-in_err-inner-clause-reads
parse_not-returns-in_err-inner-clause-reads t c =
    let ts = c.args.tokens.now in
    let b = c.args.budget in
    let i = c.args.start in
    let e : b ≡ suc (b - 1) = omega (arith, c.requires.budget) in
    let o = c.if-not-is.ensures.same.0 refl in
    let p = err_from_is_err_and c.from_residual.result c.from_residual.ensures.1 in
    rw (p.1, p.2) (fails_by (negation ts) (negation ts) (b - 1) b ts c.args.end (i + 1) i _ (λ r S. (not_passes ts b i o (b - 1) e (i + 1) (omega arith)).refuses r S) c.in_err-inner.ensures.reads)

pub parse_not-returns-clause-reads : goal.parse_not-returns-clause-reads
parse_not-returns-clause-reads t c =
    let ts = c.args.tokens.now in
    let b = c.args.budget in
    let i = c.args.start in
    let e : b ≡ suc (b - 1) = omega (arith, c.requires.budget) in
    let o = c.if-not-is.ensures.same.0 refl in
    let x = c.in_ok-inner.inner in
    rw (c.tree.ensures, c.in_ok-node.ensures) (subst (λ z. Measures (negation ts) b (not_tree ts x.tree i x.next) z i x.next) (omega arith) ((not_passes ts b i o (b - 1) e (i + 1) (omega arith)).reads x.tree x.height x.next c.in_ok-inner.ensures.reads))

pub parse_behind-returns-then-budget-lt1-clause-reads : goal.parse_behind-returns-then-budget-lt1-clause-reads
parse_behind-returns-then-budget-lt1-clause-reads t c =
    let ts = c.args.tokens.now in
    let b = c.args.budget in
    let i = c.args.start in
    let m = mark_code c.args.mark in
    let o = c.if-not-is.ensures.same.0 refl in
    rw c.too_high.ensures (i, behind_high ts m b i o (let q = c.if-budget-lt1.true in omega arith), refl)

pub parse_behind-returns-clause-reads : goal.parse_behind-returns-clause-reads
parse_behind-returns-clause-reads t c =
    let ts = c.args.tokens.now in
    let b = c.args.budget in
    let i = c.args.start in
    let m = mark_code c.args.mark in
    let o = c.if-not-is.ensures.same.0 refl in
    let on = behind_passes ts m b i o (i + 1) (omega arith) in
    MatchResult-weaker c.parse_chain.result c.parse_chain.ensures.reads (λ x M. on.reads x.tree x.height x.next M) (λ x F. fails_by (expression ts) (Behind ts m) b b ts c.args.end (i + 1) i x on.refuses F)

pub parse_paren-returns-in_err-inner-clause-reads : goal.parse_paren-returns-in_err-inner-clause-reads
parse_paren-returns-in_err-inner-clause-reads t c =
    let ts = c.args.tokens.now in
    let b = c.args.budget in
    let i = c.args.start in
    let e : b ≡ suc (b - 1) = omega (arith, c.requires.budget) in
    let o = c.requires.opens in
    let p = err_from_is_err_and c.from_residual.result c.from_residual.ensures.1 in
    rw (p.1, p.2) (fails_by (Behind ts left_parenthesis) (primary ts) (b - 1) b ts c.args.end i i _ (λ r S. paren_refuses ts (b - 1) b i e o r S) c.in_err-inner.ensures.reads)

pub parse_paren-returns-then-not-is-clause-reads : goal.parse_paren-returns-then-not-is-clause-reads
parse_paren-returns-then-not-is-clause-reads t c =
    let ts = c.args.tokens.now in
    let b = c.args.budget in
    let i = c.args.start in
    let e : b ≡ suc (b - 1) = omega (arith, c.requires.budget) in
    let o = c.requires.opens in
    let x = c.in_ok-inner.inner in
    let M = c.in_ok-inner.ensures.reads in
    rw c.unexpected.ensures (x.next, paren_open ts (b - 1) b i e o x.height x.next x.tree M (λ y. let z : false ≡ true = c.if-not-is.ensures.same.1 y in cc), refl)

pub parse_paren-returns-clause-reads : goal.parse_paren-returns-clause-reads
parse_paren-returns-clause-reads t c =
    let ts = c.args.tokens.now in
    let b = c.args.budget in
    let i = c.args.start in
    let e : b ≡ suc (b - 1) = omega (arith, c.requires.budget) in
    let o = c.requires.opens in
    let x = c.in_ok-inner.inner in
    let M = c.in_ok-inner.ensures.reads in
    rw (c.tree.ensures, c.in_ok-node.ensures) (paren_reads ts (b - 1) b i e o x.height x.next x.tree M (x.next + 1) (x.height + 1) (omega arith) (omega arith) (c.if-not-is.ensures.same.0 refl))

pub parse_if-returns-in_err-condition-clause-reads : goal.parse_if-returns-in_err-condition-clause-reads
parse_if-returns-in_err-condition-clause-reads t c =
    let ts = c.args.tokens.now in
    let b = c.args.budget in
    let i = c.args.start in
    let e : b ≡ suc (b - 1) = omega (arith, c.requires.budget) in
    let o = c.requires.opens in
    let p = err_from_is_err_and c.from_residual.result c.from_residual.ensures.1 in
    rw (p.1, p.2) (fails_by (Behind ts word_if) (primary ts) (b - 1) b ts c.args.end i i _ (λ r S. if_refuses ts (b - 1) b i e o r S) c.in_err-condition.ensures.reads)

pub parse_if-returns-in_err-yes-clause-reads : goal.parse_if-returns-in_err-yes-clause-reads
parse_if-returns-in_err-yes-clause-reads t c =
    let ts = c.args.tokens.now in
    let b = c.args.budget in
    let i = c.args.start in
    let e : b ≡ suc (b - 1) = omega (arith, c.requires.budget) in
    let o = c.requires.opens in
    let x = c.in_ok-condition.condition in
    let M = c.in_ok-condition.ensures.reads in
    let p = err_from_is_err_and c.from_residual-in_err-yes.result c.from_residual-in_err-yes.ensures.1 in
    rw (p.1, p.2) (fails_by (Behind ts word_then) (primary ts) (b - 1) b ts c.args.end x.next i _ (λ r S. then_refuses ts (b - 1) b i e o x.height x.next x.tree M r S) c.in_err-yes.ensures.reads)

pub parse_if-returns-in_err-no-clause-reads : goal.parse_if-returns-in_err-no-clause-reads
parse_if-returns-in_err-no-clause-reads t c =
    let ts = c.args.tokens.now in
    let b = c.args.budget in
    let i = c.args.start in
    let e : b ≡ suc (b - 1) = omega (arith, c.requires.budget) in
    let o = c.requires.opens in
    let x = c.in_ok-condition.condition in
    let M = c.in_ok-condition.ensures.reads in
    let y = c.in_ok-yes.yes in
    let N = c.in_ok-yes.ensures.reads in
    let p = err_from_is_err_and c.from_residual-in_err-no.result c.from_residual-in_err-no.ensures.1 in
    rw (p.1, p.2) (fails_by (Behind ts word_else) (primary ts) (b - 1) b ts c.args.end y.next i _ (λ r S. else_refuses ts (b - 1) b i e o x.height x.next x.tree M y.height y.next y.tree N r S) c.in_err-no.ensures.reads)

pub parse_if-returns-then-not-is-clause-reads : goal.parse_if-returns-then-not-is-clause-reads
parse_if-returns-then-not-is-clause-reads t c =
    let ts = c.args.tokens.now in
    let b = c.args.budget in
    let i = c.args.start in
    let e : b ≡ suc (b - 1) = omega (arith, c.requires.budget) in
    let o = c.requires.opens in
    let x = c.in_ok-condition.condition in
    let M = c.in_ok-condition.ensures.reads in
    let y = c.in_ok-yes.yes in
    let N = c.in_ok-yes.ensures.reads in
    let w = c.in_ok-no.no in
    let O = c.in_ok-no.ensures.reads in
    rw c.unexpected.ensures (w.next, if_open ts (b - 1) b i e o x.height x.next x.tree M y.height y.next y.tree N w.height w.next w.tree O (λ y. let z : false ≡ true = c.if-not-is.ensures.same.1 y in cc), refl)

pub parse_if-returns-clause-reads : goal.parse_if-returns-clause-reads
parse_if-returns-clause-reads t c =
    let ts = c.args.tokens.now in
    let b = c.args.budget in
    let i = c.args.start in
    let e : b ≡ suc (b - 1) = omega (arith, c.requires.budget) in
    let o = c.requires.opens in
    let x = c.in_ok-condition.condition in
    let M = c.in_ok-condition.ensures.reads in
    let y = c.in_ok-yes.yes in
    let N = c.in_ok-yes.ensures.reads in
    let w = c.in_ok-no.no in
    let O = c.in_ok-no.ensures.reads in
    rw (c.tree.ensures, c.in_ok-node.ensures) (if_reads ts (b - 1) b i e o x.height x.next x.tree M y.height y.next y.tree N w.height w.next w.tree O (w.next + 1) _ (omega arith) (omega (arith, c.larger.ensures, c.larger-height.ensures)) (c.if-not-is.ensures.same.0 refl))

pub parse_join-returns-then-budget-lt2-clause-reads : goal.parse_join-returns-then-budget-lt2-clause-reads
parse_join-returns-then-budget-lt2-clause-reads t c =
    let ts = c.args.tokens.now in
    let b = c.args.budget in
    let i = c.args.start in
    let e : b ≡ suc (b - 1) = omega (arith, c.requires.budget) in
    let d = c.args.lub in
    let o = c.requires.opens in
    rw c.too_high.ensures (i, join_high ts (b - 1) b i e d o (let q = c.if-budget-lt2.true in omega arith), refl)

pub parse_join-returns-in_err-left-clause-reads : goal.parse_join-returns-in_err-left-clause-reads
parse_join-returns-in_err-left-clause-reads t c =
    let ts = c.args.tokens.now in
    let b = c.args.budget in
    let i = c.args.start in
    let e : b ≡ suc (b - 1) = omega (arith, c.requires.budget) in
    let d = c.args.lub in
    let o = c.requires.opens in
    let q = c.if-budget-lt2.false in
    let le : 1 ≤ b - 1 = omega arith in
    let e2 : i + 1 ≡ suc i = omega arith in
    let p = err_from_is_err_and c.from_residual.result c.from_residual.ensures.1 in
    rw (p.1, p.2) (fails_by (Behind ts left_parenthesis) (primary ts) (b - 1) b ts c.args.end (i + 1) i _ (λ r S. left_refuses ts (b - 1) b i e d o (i + 1) e2 le r S) c.in_err-left.ensures.reads)

pub parse_join-returns-in_err-right-clause-reads : goal.parse_join-returns-in_err-right-clause-reads
parse_join-returns-in_err-right-clause-reads t c =
    let ts = c.args.tokens.now in
    let b = c.args.budget in
    let i = c.args.start in
    let e : b ≡ suc (b - 1) = omega (arith, c.requires.budget) in
    let d = c.args.lub in
    let o = c.requires.opens in
    let q = c.if-budget-lt2.false in
    let le : 1 ≤ b - 1 = omega arith in
    let e2 : i + 1 ≡ suc i = omega arith in
    let x = c.in_ok-left.left in
    let M = c.in_ok-left.ensures.reads in
    let p = err_from_is_err_and c.from_residual-in_err-right.result c.from_residual-in_err-right.ensures.1 in
    rw (p.1, p.2) (fails_by (Behind ts comma) (primary ts) (b - 1) b ts c.args.end x.next i _ (λ r S. right_refuses ts (b - 1) b i e d o (i + 1) e2 le x.height x.next x.tree M r S) c.in_err-right.ensures.reads)

pub parse_join-returns-then-not-is-clause-reads : goal.parse_join-returns-then-not-is-clause-reads
parse_join-returns-then-not-is-clause-reads t c =
    let ts = c.args.tokens.now in
    let b = c.args.budget in
    let i = c.args.start in
    let e : b ≡ suc (b - 1) = omega (arith, c.requires.budget) in
    let d = c.args.lub in
    let o = c.requires.opens in
    let q = c.if-budget-lt2.false in
    let le : 1 ≤ b - 1 = omega arith in
    let e2 : i + 1 ≡ suc i = omega arith in
    let x = c.in_ok-left.left in
    let M = c.in_ok-left.ensures.reads in
    let y = c.in_ok-right.right in
    let N = c.in_ok-right.ensures.reads in
    rw c.unexpected.ensures (y.next, join_open ts (b - 1) b i e d o (i + 1) e2 le x.height x.next x.tree M y.height y.next y.tree N (λ y. let z : false ≡ true = c.if-not-is.ensures.same.1 y in cc), refl)

pub parse_join-returns-clause-reads : goal.parse_join-returns-clause-reads
parse_join-returns-clause-reads t c =
    let ts = c.args.tokens.now in
    let b = c.args.budget in
    let i = c.args.start in
    let e : b ≡ suc (b - 1) = omega (arith, c.requires.budget) in
    let d = c.args.lub in
    let o = c.requires.opens in
    let q = c.if-budget-lt2.false in
    let le : 1 ≤ b - 1 = omega arith in
    let e2 : i + 1 ≡ suc i = omega arith in
    let x = c.in_ok-left.left in
    let M = c.in_ok-left.ensures.reads in
    let y = c.in_ok-right.right in
    let N = c.in_ok-right.ensures.reads in
    rw (c.tree.ensures, c.in_ok-node.ensures) (join_reads ts (b - 1) b i e d o (i + 1) e2 le x.height x.next x.tree M y.height y.next y.tree N (y.next + 1) (c.larger.result + 1) (omega arith) (omega (arith, c.larger.ensures)) (c.if-not-is.ensures.same.0 refl))

pub parse_quant-returns-then-budget-lt2-clause-reads : goal.parse_quant-returns-then-budget-lt2-clause-reads
parse_quant-returns-then-budget-lt2-clause-reads t c =
    let ts = c.args.tokens.now in
    let b = c.args.budget in
    let i = c.args.start in
    let e : b ≡ suc (b - 1) = omega (arith, c.requires.budget) in
    let d = c.args.forall in
    let o = c.requires.opens in
    rw c.too_high.ensures (i, quant_high ts (b - 1) b i e d o (let q = c.if-budget-lt2.true in omega arith), refl)

pub parse_quant-returns-in_err-variable-clause-reads : goal.parse_quant-returns-in_err-variable-clause-reads
parse_quant-returns-in_err-variable-clause-reads t c =
    let ts = c.args.tokens.now in
    let b = c.args.budget in
    let i = c.args.start in
    let e : b ≡ suc (b - 1) = omega (arith, c.requires.budget) in
    let d = c.args.forall in
    let o = c.requires.opens in
    let q = c.if-budget-lt2.false in
    let le : 1 ≤ b - 1 = omega arith in
    let e2 : i + 1 ≡ suc i = omega arith in
    let p = err_from_is_err_and c.from_residual.result c.from_residual.ensures.1 in
    rw (p.1, p.2) (fails_by (λ (_ : ℕ). formal_line ts) (primary ts) 0 b ts c.args.end (i + 1) i _ (λ r S. variable_refuses ts (b - 1) b i e d o (i + 1) e2 le r S) c.in_err-variable.ensures.reads)

pub parse_quant-returns-in_err-body-clause-reads : goal.parse_quant-returns-in_err-body-clause-reads
parse_quant-returns-in_err-body-clause-reads t c =
    let ts = c.args.tokens.now in
    let b = c.args.budget in
    let i = c.args.start in
    let e : b ≡ suc (b - 1) = omega (arith, c.requires.budget) in
    let d = c.args.forall in
    let o = c.requires.opens in
    let q = c.if-budget-lt2.false in
    let le : 1 ≤ b - 1 = omega arith in
    let e2 : i + 1 ≡ suc i = omega arith in
    let f = c.in_ok-variable.variable in
    let W : (formal_line ts).whole f (i + 1) (i + 3) = subst (λ z. (formal_line ts).whole f (i + 1) z) (omega arith) c.in_ok-variable.ensures.reads in
    let p = err_from_is_err_and c.from_residual-in_err-body.result c.from_residual-in_err-body.ensures.1 in
    rw (p.1, p.2) (fails_by (Behind ts colon) (primary ts) (b - 1) b ts c.args.end (i + 3) i _ (λ r S. body_refuses ts (b - 1) b i e d o (i + 1) e2 le (i + 3) f W r S) c.in_err-body.ensures.reads)

pub parse_quant-returns-then-not-is-clause-reads : goal.parse_quant-returns-then-not-is-clause-reads
parse_quant-returns-then-not-is-clause-reads t c =
    let ts = c.args.tokens.now in
    let b = c.args.budget in
    let i = c.args.start in
    let e : b ≡ suc (b - 1) = omega (arith, c.requires.budget) in
    let d = c.args.forall in
    let o = c.requires.opens in
    let q = c.if-budget-lt2.false in
    let le : 1 ≤ b - 1 = omega arith in
    let e2 : i + 1 ≡ suc i = omega arith in
    let f = c.in_ok-variable.variable in
    let W : (formal_line ts).whole f (i + 1) (i + 3) = subst (λ z. (formal_line ts).whole f (i + 1) z) (omega arith) c.in_ok-variable.ensures.reads in
    let x = c.in_ok-body.body in
    let M = c.in_ok-body.ensures.reads in
    rw c.unexpected.ensures (x.next, quant_open ts (b - 1) b i e d o (i + 1) e2 le (i + 3) f W x.height x.next x.tree M (λ y. let z : false ≡ true = c.if-not-is.ensures.same.1 (y ∙ sym c.closing.ensures) in cc), refl)

pub parse_quant-returns-clause-reads : goal.parse_quant-returns-clause-reads
parse_quant-returns-clause-reads t c =
    let ts = c.args.tokens.now in
    let b = c.args.budget in
    let i = c.args.start in
    let e : b ≡ suc (b - 1) = omega (arith, c.requires.budget) in
    let d = c.args.forall in
    let o = c.requires.opens in
    let q = c.if-budget-lt2.false in
    let le : 1 ≤ b - 1 = omega arith in
    let e2 : i + 1 ≡ suc i = omega arith in
    let f = c.in_ok-variable.variable in
    let W : (formal_line ts).whole f (i + 1) (i + 3) = subst (λ z. (formal_line ts).whole f (i + 1) z) (omega arith) c.in_ok-variable.ensures.reads in
    let x = c.in_ok-body.body in
    let M = c.in_ok-body.ensures.reads in
    rw (c.tree.ensures, c.in_ok-node.ensures) (quant_reads ts (b - 1) b i e d o (i + 1) e2 le (i + 3) f W x.height x.next x.tree M (x.next + 1) (x.height + 1) (omega arith) (omega arith) (c.if-not-is.ensures.same.0 refl ∙ c.closing.ensures))

pub parse_named-returns-then-not-is-clause-reads : goal.parse_named-returns-then-not-is-clause-reads
parse_named-returns-then-not-is-clause-reads t c =
    let ts = c.args.tokens.now in
    let b = c.args.budget in
    let i = c.args.start in
    let e : b ≡ suc (b - 1) = omega (arith, c.requires.budget) in
    let v = c.args.name in
    let f = c.requires.named in
    let o = ident_code ts v i f in
    let e2 : i + 1 ≡ suc i = omega arith in
    rw (c.leaf.ensures.tree, c.leaf.ensures.height, c.leaf.ensures.next) (name_reads ts (b - 1) b i e v f o (suc i) refl (subst (λ z. at ts z ≡ left_parenthesis → ⊥) e2 (λ y. let z : false ≡ true = c.if-not-is.ensures.same.1 y in cc)))

pub parse_named-returns-in_err-args-clause-reads : goal.parse_named-returns-in_err-args-clause-reads
parse_named-returns-in_err-args-clause-reads t c =
    let ts = c.args.tokens.now in
    let b = c.args.budget in
    let i = c.args.start in
    let e : b ≡ suc (b - 1) = omega (arith, c.requires.budget) in
    let v = c.args.name in
    let f = c.requires.named in
    let o = ident_code ts v i f in
    let e2 : i + 1 ≡ suc i = omega arith in
    let p = err_from_is_err_and c.from_residual.result c.from_residual.ensures.1 in
    rw (p.1, p.2) (fails_by (Args ts) (primary ts) (b - 1) b ts c.args.end (i + 1) i _ (λ r S. call_refuses ts (b - 1) b i e v f o (i + 1) e2 (c.if-not-is.ensures.same.0 refl) r S) c.in_err-args.ensures.reads)

pub parse_named-returns-clause-reads : goal.parse_named-returns-clause-reads
parse_named-returns-clause-reads t c =
    let ts = c.args.tokens.now in
    let b = c.args.budget in
    let i = c.args.start in
    let e : b ≡ suc (b - 1) = omega (arith, c.requires.budget) in
    let v = c.args.name in
    let f = c.requires.named in
    let o = ident_code ts v i f in
    let e2 : i + 1 ≡ suc i = omega arith in
    let x = c.in_ok-args.args in
    rw (c.tree.ensures, c.from_vec.ensures) (call_reads ts (b - 1) b i e v f o (i + 1) e2 x.height (x.height + 1) x.next x.items.items (omega arith) c.in_ok-args.ensures.reads)

pub parse_new-returns-in_default-clause-reads : goal.parse_new-returns-in_default-clause-reads
parse_new-returns-in_default-clause-reads t c =
    let ts = c.args.tokens.now in
    let b = c.args.budget in
    let i = c.args.start in
    let e : b ≡ suc (b - 1) = omega (arith, c.requires.budget) in
    let o = c.requires.opens in
    let e2 : i + 1 ≡ suc i = omega arith in
    let e3 : i + 2 ≡ suc (i + 1) = omega arith in
    let off = subst (λ (z : Option Ident). IfNone z (at ts (i + 1) ≡ name_code → ⊥)) c.in_default.is c.in_ok-name.ensures.none in
    rw c.unexpected.ensures (i + 1, new_no_name ts (b - 1) b i e o (i + 1) e2 off, refl)

pub parse_new-returns-then-not-is-clause-reads : goal.parse_new-returns-then-not-is-clause-reads
parse_new-returns-then-not-is-clause-reads t c =
    let ts = c.args.tokens.now in
    let b = c.args.budget in
    let i = c.args.start in
    let e : b ≡ suc (b - 1) = omega (arith, c.requires.budget) in
    let o = c.requires.opens in
    let e2 : i + 1 ≡ suc i = omega arith in
    let e3 : i + 2 ≡ suc (i + 1) = omega arith in
    let v = c.in-Some.name in
    let f = subst (λ (z : Option Ident). IfSome z (λ x. slice_get ts (i + 1) ≡ Some (record { kind = kind.Name x.name; span = x.span }))) c.in-Some.is c.in_ok-name.ensures.some in
    rw c.unexpected-then-not-is.ensures (i + 2, new_no_args ts (b - 1) b i e o (i + 1) e2 v (i + 2) f e3 (λ y. let z : false ≡ true = c.if-not-is.ensures.same.1 y in cc), refl)

pub parse_new-returns-in_err-args-clause-reads : goal.parse_new-returns-in_err-args-clause-reads
parse_new-returns-in_err-args-clause-reads t c =
    let ts = c.args.tokens.now in
    let b = c.args.budget in
    let i = c.args.start in
    let e : b ≡ suc (b - 1) = omega (arith, c.requires.budget) in
    let o = c.requires.opens in
    let e2 : i + 1 ≡ suc i = omega arith in
    let e3 : i + 2 ≡ suc (i + 1) = omega arith in
    let v = c.in-Some.name in
    let f = subst (λ (z : Option Ident). IfSome z (λ x. slice_get ts (i + 1) ≡ Some (record { kind = kind.Name x.name; span = x.span }))) c.in-Some.is c.in_ok-name.ensures.some in
    let p = err_from_is_err_and c.from_residual-in_err-args.result c.from_residual-in_err-args.ensures.1 in
    rw (p.1, p.2) (fails_by (Args ts) (primary ts) (b - 1) b ts c.args.end (i + 2) i _ (λ r S. new_refuses ts (b - 1) b i e o (i + 1) e2 v (i + 2) f e3 r S) c.in_err-args.ensures.reads)

pub parse_new-returns-clause-reads : goal.parse_new-returns-clause-reads
parse_new-returns-clause-reads t c =
    let ts = c.args.tokens.now in
    let b = c.args.budget in
    let i = c.args.start in
    let e : b ≡ suc (b - 1) = omega (arith, c.requires.budget) in
    let o = c.requires.opens in
    let e2 : i + 1 ≡ suc i = omega arith in
    let e3 : i + 2 ≡ suc (i + 1) = omega arith in
    let v = c.in-Some.name in
    let f = subst (λ (z : Option Ident). IfSome z (λ x. slice_get ts (i + 1) ≡ Some (record { kind = kind.Name x.name; span = x.span }))) c.in-Some.is c.in_ok-name.ensures.some in
    let x = c.in_ok-args.args in
    rw (c.tree.ensures, c.from_vec.ensures) (new_reads ts (b - 1) b i e o (i + 1) e2 v (i + 2) f e3 x.height (x.height + 1) x.next x.items.items (omega arith) c.in_ok-args.ensures.reads)

pub parse_args-returns-then-is-clause-reads : goal.parse_args-returns-then-is-clause-reads
parse_args-returns-then-is-clause-reads t c =
    let ts = c.args.tokens.now in
    let b = c.args.budget in
    let i = c.args.start in
    let o = c.requires.opens in
    let e2 : i + 1 ≡ suc i = omega arith in
    rw c.new-items.ensures.items (no_args ts b i o (i + 1) e2 (i + 1 + 1) (omega arith) (c.if-is.ensures.same.0 refl))

pub parse_args-returns-then-not-begins_expr-clause-reads : goal.parse_args-returns-then-not-begins_expr-clause-reads
parse_args-returns-then-not-begins_expr-clause-reads t c =
    let ts = c.args.tokens.now in
    let b = c.args.budget in
    let i = c.args.start in
    let o = c.requires.opens in
    let e2 : i + 1 ≡ suc i = omega arith in
    rw c.unexpected.ensures (i + 1, args_stop ts b i o (i + 1) e2 (λ h. let x : false ≡ true = c.if-not-begins_expr.ensures ∙ h in cc) (λ y. let z : false ≡ true = c.if-is.ensures.same.1 y in cc), refl)

pub parse_args-returns-then-budget-lt1-clause-reads : goal.parse_args-returns-then-budget-lt1-clause-reads
parse_args-returns-then-budget-lt1-clause-reads t c =
    let ts = c.args.tokens.now in
    let b = c.args.budget in
    let i = c.args.start in
    let o = c.requires.opens in
    let e2 : i + 1 ≡ suc i = omega arith in
    rw c.too_high.ensures (i + 1, args_high ts b i o (i + 1) e2 (sym c.if-not-begins_expr.ensures) (let q = c.if-budget-lt1.true in omega arith) (λ y. let z : false ≡ true = c.if-is.ensures.same.1 y in cc), refl)

pub parse_args-returns-in_err-head-clause-reads : goal.parse_args-returns-in_err-head-clause-reads
parse_args-returns-in_err-head-clause-reads t c =
    let ts = c.args.tokens.now in
    let b = c.args.budget in
    let i = c.args.start in
    let o = c.requires.opens in
    let e2 : i + 1 ≡ suc i = omega arith in
    let p = err_from_is_err_and c.from_residual.result c.from_residual.ensures.1 in
    rw (p.1, p.2) (fails_by (expression ts) (Args ts) b b ts c.args.end (i + 1) i _ (λ r S. head_refuses ts b i o (i + 1) e2 (sym c.if-not-begins_expr.ensures) r S) c.in_err-head.ensures.reads)

pub parse_args-returns-in_err-item-clause-reads : goal.parse_args-returns-in_err-item-clause-reads
parse_args-returns-in_err-item-clause-reads t c =
    let ts = c.args.tokens.now in
    let b = c.args.budget in
    let i = c.args.start in
    let o = c.requires.opens in
    let e2 : i + 1 ≡ suc i = omega arith in
    let l = c.loop-alloc in
    let h = c.in_ok-head.head in
    let p = err_from_is_err_and c.from_residual-in_err-item.result c.from_residual-in_err-item.ensures.1 in
    rw (p.1, p.2) (fails_by (Behind ts comma) (Args ts) b b ts c.args.end l.next i _ (λ r S. item_refuses ts b i o (i + 1) e2 (sym c.if-not-begins_expr.ensures) h.height h.next h.tree c.in_ok-head.ensures.reads l.height l.next l.invariant.0 l.invariant.1.rest l.invariant.1.fits (let q = c.if-budget-lt1.false in omega arith) (c.loop-alloc-test.ensures.same.0 refl) r S) c.in_err-item.ensures.reads)

pub parse_args-loop-alloc-preserved : goal.parse_args-loop-alloc-preserved
parse_args-loop-alloc-preserved t c =
    let ts = c.args.tokens.now in
    let b = c.args.budget in
    let i = c.args.start in
    let l = c.loop-alloc in
    let h = c.in_ok-head.head in
    let x = c.in_ok-item.item in
    let us = l.invariant.0 in
    let mv = c.in_ok-item.ensures.moves in
    let m = l.invariant.1.moves in
    let fi = c.in_ok-item.ensures.reads.fits in
    let fl = l.invariant.1.fits in
    let mx : c.larger-height.result ≡ max l.height x.height = c.larger-height.ensures in (
      us ++ x.tree ∷ [],
      record {
        items = c.in_ok-push-2.ensures.items ∙ ap (λ z. z ++ x.tree ∷ []) l.invariant.1.items;
        rest = one_more_arg ts b l.height x.height h.next l.next x.next c.larger-height.result x.tree us l.invariant.1.rest mx c.in_ok-item.ensures.reads;
        fits = omega (arith, mx, fi, fl);
        moves = omega arith;
        within = c.in_ok-item.ensures.within;
      },
    )

pub parse_args-returns-then-not-is-clause-reads : goal.parse_args-returns-then-not-is-clause-reads
parse_args-returns-then-not-is-clause-reads t c =
    let ts = c.args.tokens.now in
    let b = c.args.budget in
    let i = c.args.start in
    let o = c.requires.opens in
    let e2 : i + 1 ≡ suc i = omega arith in
    let l = c.loop-alloc in
    let h = c.in_ok-head.head in
    rw c.unexpected-then-not-is.ensures (l.next, args_open ts b i o (i + 1) e2 (sym c.if-not-begins_expr.ensures) h.height h.next h.tree c.in_ok-head.ensures.reads l.height l.next l.invariant.0 l.invariant.1.rest l.invariant.1.fits (λ y. let z : false ≡ true = c.loop-alloc-test.ensures.same.1 y in cc) (λ y. let z : false ≡ true = c.if-not-is.ensures.same.1 y in cc), refl)

pub parse_args-returns-clause-reads : goal.parse_args-returns-clause-reads
parse_args-returns-clause-reads t c =
    let ts = c.args.tokens.now in
    let b = c.args.budget in
    let i = c.args.start in
    let o = c.requires.opens in
    let e2 : i + 1 ≡ suc i = omega arith in
    let l = c.loop-alloc in
    let h = c.in_ok-head.head in
    rw l.invariant.1.items (args_reads ts b i o (i + 1) e2 (sym c.if-not-begins_expr.ensures) h.height h.next h.tree c.in_ok-head.ensures.reads l.height l.next l.invariant.0 l.invariant.1.rest l.invariant.1.fits (λ y. let z : false ≡ true = c.loop-alloc-test.ensures.same.1 y in cc) (l.next + 1) c.larger.result (omega arith) c.larger.ensures (c.if-not-is.ensures.same.0 refl))

pub parse_primary-returns-in-Some-clause-reads : goal.parse_primary-returns-in-Some-clause-reads
parse_primary-returns-in-Some-clause-reads t c =
    let ts = c.args.tokens.now in
    let b = c.args.budget in
    let i = c.args.start in
    let e : b ≡ suc (b - 1) = omega (arith, c.requires.budget) in
    rw (c.leaf.ensures.tree, c.leaf.ensures.height, c.leaf.ensures.next) (number_leaf ts (b - 1) b i e c.in-Some.number _ _ c.in-Some.ensures.some (let f : SFits w64 c.in-Some.number = search rules in omega (arith, ints)))

pub parse_primary-returns-in-Some-constant_at-clause-reads : goal.parse_primary-returns-in-Some-constant_at-clause-reads
parse_primary-returns-in-Some-constant_at-clause-reads t c =
    let ts = c.args.tokens.now in
    let b = c.args.budget in
    let i = c.args.start in
    let e : b ≡ suc (b - 1) = omega (arith, c.requires.budget) in
    rw (c.leaf-in-Some-constant_at.ensures.tree, c.leaf-in-Some-constant_at.ensures.height, c.leaf-in-Some-constant_at.ensures.next)
    (constant_reads ts (b - 1) b i e (suc i) (tree ts c.in-Some-constant_at.node i (suc i)) (omega arith) c.in-Some-constant_at.ensures.some)

pub parse_primary-returns-in_err-negative-clause-reads : goal.parse_primary-returns-in_err-negative-clause-reads
parse_primary-returns-in_err-negative-clause-reads t c =
    let ts = c.args.tokens.now in
    let b = c.args.budget in
    let i = c.args.start in
    let e : b ≡ suc (b - 1) = omega (arith, c.requires.budget) in
    let p = err_from_is_err_and c.from_residual-in_err-negative.result c.from_residual-in_err-negative.ensures.1 in
    rw (p.1, p.2) (fails_by (λ (_ : ℕ). number_line ts) (primary ts) 0 b ts c.args.end i i _ (λ r S. number_refuses ts (b - 1) b i e minus (c.if-is.ensures.same.0 refl) (λ k. cc) r S) c.in_err-negative.ensures.reads)

pub parse_primary-returns-then-is-clause-reads : goal.parse_primary-returns-then-is-clause-reads
parse_primary-returns-then-is-clause-reads t c =
    let ts = c.args.tokens.now in
    let b = c.args.budget in
    let i = c.args.start in
    let e : b ≡ suc (b - 1) = omega (arith, c.requires.budget) in
    number_reads ts (b - 1) b i e minus (i + 2) _ (c.if-is.ensures.same.0 refl) (λ k. cc) c.in_ok-negative.ensures.reads

pub parse_primary-returns-clause-reads : goal.parse_primary-returns-clause-reads
parse_primary-returns-clause-reads t c =
    let ts = c.args.tokens.now in
    let b = c.args.budget in
    let i = c.args.start in
    let e : b ≡ suc (b - 1) = omega (arith, c.requires.budget) in
    let no_name = subst (λ (z : Option Ident). IfNone z (at ts i ≡ name_code → ⊥)) c.in_default-2.is c.in_ok-name.ensures.none in
    rw c.unexpected.ensures (i, no_primary ts (b - 1) b i e (none_first ts i (λ y. let z : false ≡ true = c.if-is.ensures.same.1 y in cc) c.in_default.ensures.none c.in_default-constant_at.ensures.none no_name (λ y. let z : false ≡ true = c.if-is-2.ensures.same.1 y in cc) (λ y. let z : false ≡ true = c.if-is-3.ensures.same.1 y in cc) (λ y. let z : false ≡ true = c.if-is-4.ensures.same.1 y in cc) (λ y. let z : false ≡ true = c.if-is-5.ensures.same.1 y in cc) (λ y. let z : false ≡ true = c.if-is-6.ensures.same.1 y in cc) (λ y. let z : false ≡ true = c.if-is-7.ensures.same.1 y in cc) (λ y. let z : false ≡ true = c.if-is-8.ensures.same.1 y in cc)), refl)
