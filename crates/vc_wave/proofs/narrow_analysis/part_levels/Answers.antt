use Rattle.std.proofs.Common.{◌≡◌, ◌+◌, ◌-◌, ◌*◌, ◌^◌, length, arith, ap, refl, sym, ◌∙◌}
use Rattle.vc_wave.specs.ForwardBounds.{parted_level_bound}
use Rattle.vc_wave.specs.NarrowBounds.{bound_over}
use Rattle.vc_wave.specs.Planes.{plane_of}
use Rattle.vc_wave.specs.Remade.{parted_in_turn}
use Rattle.vc_wave.proofs.CarriedBounds.{bound_zero, one_more, reached_at, parted_at_most, made_within}
use Rattle.vc_wave.proofs.Levels.{level_some}
use Rattle.vc_wave.proofs.TurnedLevels.{pitch_fits, parted_room, next_parted, last_parted}
use Rattle.vc_wave.proofs.narrow_analysis.part_levels.Goals as goal

pub loop-n-init : goal.loop-n-init
loop-n-init c =
    record {
      some = omega arith;
      made = refl;
      small = λ m b first e i.
          (let same = bound_zero (parted_level_bound c.args.levels.wavelets.down) m b e in
          rw (sym same) (first i));
    }

pub side_at-pitch-requires-clause-fits : goal.side_at-pitch-requires-clause-fits
side_at-pitch-requires-clause-fits c =
    let l = c.args.levels in
    let fits = pitch_fits l.pitch l.nesting.h l.nesting.levels c.loop-n.n
    (length c.args.cells.now) l.some_rows (omega arith)
    c.requires.room.down in
    omega (arith, fits)

pub part_level-requires-clause-room : goal.part_level-requires-clause-room
part_level-requires-clause-room c =
    let l = c.args.levels in
    let level = c.level.ensures in
    rw (level.w, level.h, level.pitch, c.side_at-pitch.ensures, c.loop-n.auto.cells, c.loop-n.auto.line)
    (parted_room l.nesting.w l.nesting.h l.nesting.levels l.pitch _ _ c.requires.room c.loop-n.n
    c.loop-n-test.true)

pub part_level-requires-clause-bound : goal.part_level-requires-clause-bound
part_level-requires-clause-bound c =
    let l = c.args.levels in
    let level = c.level.ensures in
    let carry = parted_level_bound l.wavelets.down in
    let b = c.requires.bound in
    let n = c.loop-n.n in
    let r = reached_at carry (l.nesting.levels - 1) n b.most b.after (omega (arith, c.loop-n-test.true)) b.fits in
    let up : n - 1 + 1 ≡ n = omega (arith, c.loop-n.invariant.some) in
    let m = one_more carry (n - 1) b.most r.bound (ap (λ k. bound_over carry k b.most) up ∙ r.is) in
    rw level.wavelets
    (record {
      most = m.before;
      after = r.bound;
      small = c.loop-n.invariant.small b.most m.before b.small
          m.so_far;
      fits = m.next;
    })

pub loop-n-preserved : goal.loop-n-preserved
loop-n-preserved c =
    let l = c.args.levels in
    let level = c.level.ensures in
    let n = c.loop-n.n in
    let left = l.nesting.levels - 1 - n in
    let w = l.nesting.w * 2 ^ left in
    let h = l.nesting.h * 2 ^ left in
    let pitch = c.side_at-pitch.result in
    let wide = level_some l.nesting.w left l.some_columns in
    let high = level_some l.nesting.h left l.some_rows in
    let room = parted_room l.nesting.w l.nesting.h l.nesting.levels l.pitch _ _ c.requires.room n
    c.loop-n-test.true in
    let made : plane_of pitch c.part_level.new.cells
    ≡ parted_in_turn l.wavelets.down w h (plane_of pitch c.loop-n.cells) =
    rw (level.wavelets, level.pitch, level.w, level.h) at c.part_level.ensures in
    record {
      some = omega arith;
      made =
          next_parted l.wavelets.down l.nesting.levels l.nesting.w l.nesting.h l.pitch _ n c.loop-n.cells
          c.part_level.new.cells
          c.loop-n-test.true c.requires.room.across c.loop-n.invariant.made pitch w h c.side_at-pitch.ensures
          refl refl made;
      small = λ m b first e.
          (let carry = parted_level_bound l.wavelets.down in
          let up : n - 1 + 1 ≡ n + 1 - 1 = omega (arith, c.loop-n.invariant.some) in
          let o = one_more carry (n - 1) m b (ap (λ k. bound_over carry k m) up ∙ e) in
          made_within pitch o.before b
          (parted_in_turn l.wavelets.down w h) c.loop-n.cells c.part_level.new.cells
          (omega (arith, wide, c.side_at-pitch.ensures, room.across))
          (c.loop-n.invariant.small m o.before first o.so_far) made
          (λ small. parted_at_most l.wavelets.down o.before b o.next w h
          (plane_of pitch c.loop-n.cells) wide small high));
    }

pub returns : goal.returns
returns c =
    let l = c.args.levels in
    last_parted l.wavelets.down l.nesting.levels l.nesting.w l.nesting.h l.pitch _ c.loop-n.n c.loop-n.cells
    (omega (arith, c.requires.some))
    c.loop-n.invariant.made
