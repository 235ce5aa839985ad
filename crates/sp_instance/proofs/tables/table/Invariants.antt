use Rattle.std.proofs.Common.{◌≡◌, [], None, take}
use Rattle.std.specs.Prelude.{map}
use Rattle.std.specs.List.{flat_map}
use Rattle.sp_text.specs.Violations.{first}
use Rattle.sp_instance.specs.Tables.{IsSetOf, have_arguments, keys_after, row_broken, row_key, row_of, rows_repeated}
use Rattle.sp_instance.proofs.tables.table.Given as goal

abbrev pub invariant-loop-row : goal.invariant-loop-row
invariant-loop-row l = record {
  made : l.own ≡ None → l.repeated ≡ None → l.table.rows ≡ map (row_of l.words l.param) (take l.row-index l.rows);
  other : l.table.other ≡ l.initial.table.other;
  known : IsSetOf (keys_after (row_key l.words l.param l.text.name.span) [] (take l.row-index l.rows)) (have_arguments l.table.rows);
  own : l.own ≡ first (flat_map (row_broken l.words l.param l.text.name.span) (take l.row-index l.rows));
  repeated : l.repeated ≡ first (rows_repeated (row_key l.words l.param l.text.name.span) [] (take l.row-index l.rows));
}
