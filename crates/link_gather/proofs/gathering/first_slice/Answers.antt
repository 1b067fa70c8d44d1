use Rattle.link_gather.proofs.Places.{count_fits, row_fits, place_fits, place_is, room, has_room, no_room}
use Rattle.link_gather.proofs.gathering.first_slice.Goals as goal

pub overflow_mul-first : goal.overflow_mul-first
overflow_mul-first c =
    let plan = c.args.plan.now in
    row_fits plan.slices_x plan.slices_y plan.slices c.from-x.result c.from-y.result c.if-x-plan.false c.if-y-plan.false

pub overflow_add-first : goal.overflow_add-first
overflow_add-first c =
    let plan = c.args.plan.now in
    place_fits plan.slices_x plan.slices_y plan.slices c.from-x.result c.from-y.result c.if-x-plan.false c.if-y-plan.false

pub overflow_mul-plan : goal.overflow_mul-plan
overflow_mul-plan c = count_fits c.args.plan.now.slices_x c.args.plan.now.slices_y c.args.plan.now.slices

pub returns-clause-inside : goal.returns-clause-inside
returns-clause-inside c =
    let plan = c.args.plan.now in
    let part = c.args.part.now in
    λ some. has_room plan.slices_x plan.slices_y part.x part.y part.count
    c.from-x.result c.from-y.result c.from.result c.from-2.result c.from-3.result
    c.from-x.ensures c.from-y.ensures c.from.ensures c.from-2.ensures c.from-3.ensures
    c.if-x-plan.false c.if-y-plan.false c.if-end-from.false

pub returns-clause-first : goal.returns-clause-first
returns-clause-first c =
    let plan = c.args.plan.now in
    let part = c.args.part.now in
    place_is plan.slices_x plan.slices_y part.x part.y part.count
    c.from-x.result c.from-y.result c.from.result c.from-2.result c.from-3.result
    c.from-x.ensures c.from-y.ensures c.from.ensures c.from-2.ensures c.from-3.ensures

pub returns-clause-fits : goal.returns-clause-fits
returns-clause-fits c =
    let plan = c.args.plan.now in
    let part = c.args.part.now in
    room plan.slices_x plan.slices_y part.x part.y part.count
    c.from-x.result c.from-y.result c.from.result c.from-2.result c.from-3.result
    c.from-x.ensures c.from-y.ensures c.from.ensures c.from-2.ensures c.from-3.ensures
    c.if-end-from.false

pub returns-then-end-from-clause-outside : goal.returns-then-end-from-clause-outside
returns-then-end-from-clause-outside c =
    let plan = c.args.plan.now in
    let part = c.args.part.now in
    λ none. no_room plan.slices_x plan.slices_y part.x part.y part.count
    c.from-x.result c.from-y.result c.from.result c.from-2.result c.from-3.result
    c.from-x.ensures c.from-y.ensures c.from.ensures c.from-2.ensures c.from-3.ensures
    c.if-end-from.true
