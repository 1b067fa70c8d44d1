use Rattle.picture_build.proofs.run_rects.RunRects.rect.Goals as goal

pub returns-clause-value : goal.returns-clause-value
returns-clause-value c = c.args.self.now.parts.parts c.args.b _ c.requires.number

pub returns-clause-right : goal.returns-clause-right
returns-clause-right c = c.args.self.now.parts.right c.args.b _ c.requires.number

pub returns-clause-bottom : goal.returns-clause-bottom
returns-clause-bottom c = c.args.self.now.parts.bottom c.args.b _ c.requires.number

pub returns-clause-range : goal.returns-clause-range
returns-clause-range c = c.args.self.now.parts.small c.args.b _ c.requires.number
