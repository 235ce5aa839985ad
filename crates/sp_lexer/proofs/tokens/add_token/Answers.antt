use Rattle.std.proofs.Common.{rules, ◌≡◌, ◌<◌, ◌++◌, ◌∷◌, [], length, inr, Some, None, slice_range, sym, ap, ◌∙◌, arith}
use Rattle.sp_lexer.specs.Faults.{one_more}
use Rattle.sp_lexer.specs.Scanned.{scanned_kind, lexeme_kind}
use Rattle.sp_lexer.specs.Tokens.{kind_of, most_tokens}
use Rattle.sp_lexer.proofs.Division.{gap_added, token_added, IsSome-from_equal}
use Rattle.sp_lexer.proofs.tokens.add_token.Goals as goal

pub returns-in_default-clause-ok : goal.returns-in_default-clause-ok
returns-in_default-clause-ok c =
    let here = c.requires.here in
    let bytes = slice_range c.args.text.now c.args.place c.args.piece.now.end in
    let none : kind_of here.piece ≡ None = here.is_kind ∙ ap (λ l. scanned_kind l bytes) c.in_default.is in
    gap_added c.args.text.now c.args.tokens.now.items c.args.place c.args.piece.now.end here.piece c.requires.before here.stands here.in_range none

pub returns-then-len-eq-MOST_TOKENS-clause-err : goal.returns-then-len-eq-MOST_TOKENS-clause-err
returns-then-len-eq-MOST_TOKENS-clause-err c =
    let here = c.requires.here in
    let bytes = slice_range c.args.text.now c.args.place c.args.piece.now.end in
    let some : kind_of here.piece ≡ Some (lexeme_kind c.in-Some.lexeme bytes) = here.is_kind ∙ ap (λ l. scanned_kind l bytes) c.in-Some.is in
    let full : length c.args.tokens.now.items ≡ most_tokens = search rules in
    inr (record {
      tokens = c.args.tokens.now.items;
      place = c.args.place;
      before = c.requires.before;
      here = rw c.span-span.ensures (one_more here.piece c.args.piece.now.end here.stands (IsSome-from_equal _ _ some) here.in_range full);
    })

pub returns-clause-ok : goal.returns-clause-ok
returns-clause-ok c =
    let here = c.requires.here in
    let place = c.args.place in
    let end = c.args.piece.now.end in
    let bytes = slice_range c.args.text.now place end in
    let old = c.args.tokens.now.items in
    let kind : c.in_ok-kind.kind ≡ lexeme_kind c.in-Some.lexeme bytes = search rules in
    let some : kind_of here.piece ≡ Some c.in_ok-kind.kind = here.is_kind ∙ ap (λ l. scanned_kind l bytes) c.in-Some.is ∙ ap Some (sym kind) in
    let items : c.push.new.self.items ≡ old ++ record { kind = c.in_ok-kind.kind; span = c.span-span.result } ∷ [] = search rules in
    let size : length old ≡ c.len.result = search rules in
    let room : length old < most_tokens = omega (arith, c.requires.before.within) in
    rw (items, c.span-span.ensures) (token_added c.args.text.now old place end here.piece c.in_ok-kind.kind c.requires.before here.stands here.in_range some room)
