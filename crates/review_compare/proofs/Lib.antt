mod SideLaws
mod JsonLaws
