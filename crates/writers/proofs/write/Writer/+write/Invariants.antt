-- The cycle of calls of the writers meets its contracts. Assumes nothing.
use Prim.Native.Nat.{◌+◌, ◌*◌, ◌≤◌}
use Rattle.area.specs.Steps.{size, Same}
use Rattle.choices.specs.Items.{is_pairs}
use Rattle.choices.specs.Sources.{fields_is}
use Rattle.runs.proofs.Loops.{Ready}
use Rattle.writers.proofs.Structs.{Writing}
use Rattle.writers.proofs.PointerRuns.{Pointing}
use Rattle.writers.proofs.StructRuns.{StructRunning}
use Rattle.writers.proofs.write.Writer.+write.Given as goal

abbrev pub decreases-write_struct : goal.decreases-write_struct
decreases-write_struct l = 16 * l.self.now.left

abbrev pub decreases-write_member : goal.decreases-write_member
decreases-write_member l = 16 * l.self.now.left + 6

abbrev pub decreases-write_structure : goal.decreases-write_structure
decreases-write_structure l = 16 * l.self.now.left + 5

abbrev pub decreases-write_inline : goal.decreases-write_inline
decreases-write_inline l = 16 * l.self.now.left + 4

abbrev pub decreases-write_embedded : goal.decreases-write_embedded
decreases-write_embedded l = 16 * l.self.now.left + 4

abbrev pub decreases-write_pointed : goal.decreases-write_pointed
decreases-write_pointed l = 16 * l.self.now.left + 4

abbrev pub decreases-point_to : goal.decreases-point_to
decreases-point_to l = 16 * l.self.now.left + 1

abbrev pub decreases-write_array : goal.decreases-write_array
decreases-write_array l = 16 * l.self.now.left + 5

abbrev pub decreases-write_laid : goal.decreases-write_laid
decreases-write_laid l = 16 * l.self.now.left + 4

abbrev pub decreases-element_run : goal.decreases-element_run
decreases-element_run l = 16 * l.self.now.left + 3

abbrev pub decreases-pointer_run : goal.decreases-pointer_run
decreases-pointer_run l = 16 * l.self.now.left + 2

abbrev pub decreases-struct_run : goal.decreases-struct_run
decreases-struct_run l = 16 * l.self.now.left + 1

abbrev pub decreases-write_map : goal.decreases-write_map
decreases-write_map l = 16 * l.self.now.left + 5

abbrev pub decreases-pairs : goal.decreases-pairs
decreases-pairs l = 16 * l.self.now.left + 4

abbrev pub invariant-write_struct-loop-k : goal.invariant-write_struct-loop-k
invariant-write_struct-loop-k l =
    let a = l.initial.area in
    Same a l.area
    × Writing l.self.schema.now l.self.sheet.now a.round (size a) l.self.left l.depths l.d (fields_is l.self.sheet.now l.from) a.progress a.bytes.now l.area.progress l.area.bytes.now l.k

abbrev pub invariant-pointer_run-loop-k : goal.invariant-pointer_run-loop-k
invariant-pointer_run-loop-k l =
    let a = l.initial.area in
    Same a l.area × (a.progress.seen + 65536 * (17 + 8 * l.rows.count) ≤ 65536 * a.progress.charge) × Ready a.round (size a) 8 l.rows.count a.progress
    × Pointing l.self.schema.now l.self.sheet.now a.round (size a) l.self.left l.at.structure l.at.member l.reference l.rows.first l.rows.count a.progress a.bytes.now l.area.progress l.area.bytes.now l.k

abbrev pub invariant-struct_run-loop-k : goal.invariant-struct_run-loop-k
invariant-struct_run-loop-k l =
    let a = l.initial.area in
    Same a l.area × (a.progress.seen + 65536 * 16 ≤ 65536 * a.progress.charge)
    × StructRunning l.self.schema.now l.self.sheet.now a.round (size a) l.self.left l.at.structure l.at.member l.inner (is_pairs l.items) l.rows.first l.rows.count a.progress a.bytes.now l.area.progress l.area.bytes.now l.k
