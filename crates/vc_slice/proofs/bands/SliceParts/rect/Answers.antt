use Rattle.vc_slice.proofs.bands.SliceParts.rect.Goals as goal

pub returns-clause-value : goal.returns-clause-value
returns-clause-value c = c.rects.ensures.parts c.args.b _ c.requires.number

pub returns-clause-right : goal.returns-clause-right
returns-clause-right c = c.rects.ensures.right c.args.b _ c.requires.number

pub returns-clause-bottom : goal.returns-clause-bottom
returns-clause-bottom c = c.rects.ensures.bottom c.args.b _ c.requires.number

pub returns-clause-range : goal.returns-clause-range
returns-clause-range c = c.rects.ensures.small c.args.b _ c.requires.number
