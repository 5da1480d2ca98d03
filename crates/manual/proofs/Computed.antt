-- The examples hold: the definitions compute them.
use Rattle.std.specs.Prelude.{◌≡◌, refl, true, false, [], ◌∷◌, map}
use Rattle.basis.specs.Names.{flatten, to_bits, of_int}
use Rattle.basis.proofs.Names.{arith, T}
use Rattle.lanes.specs.Lane.{lane, top_bit, build, register}
use Rattle.lanes.specs.Signed.{signed, wrap, clamp, clamp_signed, clamp_unsigned}
use Rattle.lanes.specs.Rules.{packed, pairwise, sum, sum_signed, sum_unsigned, greater, product_high, product_sum, pack, unpack, shift, left, right, right_signed, blend, mean, extract, insert, maximum_signed, maximum_unsigned, minimum_signed, minimum_unsigned, top_bits, product_high_unsigned, distance, total, distances, shuffle}
use Rattle.lanes.specs.Operations.{operate, operate_three}
use Rattle.reorder.specs.Run.{finished}
use Rattle.reorder.specs.Block.{rearranged}
use Rattle.codec.specs.Forms.{allows}
use Rattle.singles.specs.Ranges.{range_of}
use Rattle.singles.specs.Tables.{exceeds, greater_cell, greater_half, maximum_cell, maximum_half, whole_part, word_cell, word_half, single_of}
use Rattle.singles.specs.Siblings.{both, pf2iw, pi2fw, pswapd, pfcmpgt, pfmax, leave}
use Rattle.codec.specs.Opcodes.{form_at, operation_at, suffixed_of, form_of_first}
use Rattle.codec.specs.Operands.{has_sib, displacement_size}
use Rattle.codec.specs.Reads.{immediate_reader, displacement_reader, sib_reader, modrm_reader, form_reader, refusal_of, first_reader, second_reader, instruction_reader, read_at}
use Rattle.codec.specs.Fits.{all}
use Rattle.manual.specs.Addresses.{displacement_of, base_of, index_of, address_of, address}
use Rattle.manual.specs.Locations.{rm_of}
use Rattle.manual.specs.Instructions.{effect_of, execute, footprint}
use Rattle.manual.specs.Jumps.{jumped, onward_by}
use Rattle.manual.specs.Steps.{instruction_at, step_at}
use Rattle.manual.specs.Runs.{read, run_of, has_no_jump}
use Rattle.manual.specs.Footprints.{footprint_at, footprint_in_run, Meets}
use Rattle.manual.proofs.Meeting.{apart}
use Rattle.manual.proofs.Plates.{start, plates, extension_plates}
use Rattle.manual.proofs.Edges.{edges, extension_edges, stack_edges, floor_edges}
use Rattle.manual.proofs.LoopEdges.{loop_edges}
use Rattle.manual.proofs.SiblingEdges.{sibling_plates, sibling_edges}
use Rattle.manual.proofs.FootprintTable.{here, barred, counted, footprints, where_barred, where_counted, over_floors, in_runs}
use Rattle.manual.proofs.Example as example

pub record Computed : Type 0 where
  -- document 01's plates and its edges, those of manual 000, the edges of Req 04, 08 and 07, and plates and edges of Req 10
  pub plates : T (all plates)
  pub edges : T (all edges)
  pub extension_plates_lem : T (all extension_plates)
  pub extension_edges_lem : T (all extension_edges)
  pub stack_edges_lem : T (all stack_edges)
  pub floor_edges_lem : T (all floor_edges)
  pub loop_edges_lem : T (all loop_edges)
  pub sibling_plates_lem : T (all sibling_plates)
  pub sibling_edges_lem : T (all sibling_edges)
  -- the customer's example: PADDB MM0, MM1
  pub customer : run_of 0 (0x0f ∷ 0xfc ∷ 0xc1 ∷ []) 4096 (start 0xff 2 false) ≡ finished 3 1 (start 1 2 true)
  -- the table of footprints, of single steps, with no mark, with all control marks and with the zero mark, over floors, and in runs
  pub footprints : map (λ e. footprint_at 0 e.0 0 here) footprints ≡ map (λ e. e.1) footprints
  pub where_barred_lem : map (λ e. footprint_at 0 e.0 0 barred) where_barred ≡ map (λ e. e.1) where_barred
  pub where_counted_lem : map (λ e. footprint_at 0 e.0 0 counted) where_counted ≡ map (λ e. e.1) where_counted
  pub over_floors_lem : map (λ e. footprint_at e.0 e.1.0 0 here) over_floors ≡ map (λ e. e.1.1) over_floors
  pub in_runs_lem : map (λ e. footprint_in_run e.0 e.1 here e.2) in_runs ≡ map (λ e. e.3) in_runs
  -- PADDB MM0, MM1 and PADDB MM2, MM3 do not meet
  pub registers_apart : ¬ Meets (footprint_at 0 (0x0f ∷ 0xfc ∷ 0xc1 ∷ []) 0 here) (footprint_at 0 (0x0f ∷ 0xfc ∷ 0xd3 ∷ []) 0 here)
  -- the example block: it has no jump; its run, and its runs in an allowed and in a forbidden order
  pub straight : has_no_jump example.block ≡ true
  pub block : run_of 0 example.block 4096 example.start ≡ finished 17 5 example.final
  pub allowed : run_of 0 (rearranged read example.block example.allowed) 4096 example.start ≡ finished 17 5 example.final
  pub forbidden : run_of 0 (rearranged read example.block example.forbidden) 4096 example.start ≡ finished 17 5 example.spoilt

pub computed : Computed
unfolding lane top_bit build register signed wrap clamp clamp_signed clamp_unsigned packed pairwise sum sum_signed sum_unsigned greater product_high product_sum pack unpack shift left right right_signed blend mean extract insert maximum_signed maximum_unsigned minimum_signed minimum_unsigned top_bits product_high_unsigned distance total distances shuffle operate operate_three range_of exceeds greater_cell greater_half maximum_cell maximum_half whole_part word_cell word_half single_of to_bits of_int both pf2iw pi2fw pswapd pfcmpgt pfmax leave allows form_at operation_at suffixed_of form_of_first has_sib displacement_size immediate_reader displacement_reader sib_reader modrm_reader form_reader refusal_of first_reader second_reader instruction_reader read_at flatten displacement_of base_of index_of address_of address rm_of effect_of execute footprint jumped onward_by instruction_at step_at read run_of footprint_at
computed =
    record {
      plates = tt;
      edges = tt;
      extension_plates_lem = tt;
      extension_edges_lem = tt;
      stack_edges_lem = tt;
      floor_edges_lem = tt;
      loop_edges_lem = tt;
      sibling_plates_lem = tt;
      sibling_edges_lem = tt;
      customer = refl;
      footprints = refl;
      where_barred_lem = refl;
      where_counted_lem = refl;
      over_floors_lem = refl;
      in_runs_lem = refl;
      registers_apart = apart 0 1 2 3 (λ e. omega arith) (λ e. omega arith) (λ e. omega arith);
      straight = refl;
      block = refl;
      allowed = refl;
      forbidden = refl;
    }
